-- Laws of suspicious lines.
use Rattle.std.specs.Prelude.{◌≡◌, ℕ, ◌<◌, true, false, List, [], ◌∷◌, All, Contains, IsPermutation, length}
use Rattle.flow.specs.declared.site.Site.{Site}
use Rattle.flow.specs.declared.site.TableParts.{TableParts}
use Rattle.flow.specs.Predicates.{IsPredicate}
use Rattle.collector.specs.Sites.{branches_of}
use Rattle.elimination_tallies.specs.declared.labelled.LabelledRun.{LabelledRun}
use Rattle.elimination_tallies.specs.Recount.{recount}
use Rattle.association.specs.declared.suspect.Suspect.{Suspect}
use Rattle.association.specs.Order.{IsBetter}
use Rattle.suspicious_lines.specs.Listing.{AreListed, are_near}
use Rattle.suspicious_lines.specs.Places.{place_of}
use Rattle.suspicious_lines.specs.Suspects.{suspect_at, suspects_of}
use Rattle.suspicious_lines.specs.Text.{AreLinesOf}

-- the suspects are the predicates that are true in a failing run
pub record SuspectsAreThePredicates : Type 0 where
  pub each : (table : TableParts) (runs : List LabelledRun) (predicate place number : ℕ) (site : Site) → IsPredicate table.sites predicate place site number
      → 0 < (recount (branches_of table.sites) runs predicate).a
      → Contains (suspects_of table runs) (suspect_at (recount (branches_of table.sites) runs) site predicate)
  pub only : (table : TableParts) (runs : List LabelledRun) → All (λ (s : Suspect). 0 < (recount (branches_of table.sites) runs s.predicate).a)
      (suspects_of table runs)

-- there is one text
abbrev pub OneText : Type 0
OneText = (table : TableParts) (runs : List LabelledRun) (most apart : ℕ) (one other : List ℕ) → AreLinesOf table runs most apart one
    → AreLinesOf table runs most apart other → one ≡ other

-- the order of the runs is free
abbrev pub OrderIsFree : Type 0
OrderIsFree = (table : TableParts) (runs others : List LabelledRun) (most apart : ℕ) (text : List ℕ) → IsPermutation runs others
    → AreLinesOf table runs most apart text → AreLinesOf table others most apart text

-- each listed one is the best suspect of its place, is better than those listed after it, and none of these is near it
pub record IsListedWell (failing successful apart : ℕ) (suspects : List Suspect) (s : Suspect) (later : List Suspect) : Type 0 where
  pub is_one : Contains suspects s
  pub of_place : All (λ (t : Suspect). place_of t ≡ place_of s → IsBetter failing successful t s → ⊥) suspects
  pub order : All (λ (t : Suspect). IsBetter failing successful t s → ⊥) later
  pub far : All (λ (t : Suspect). are_near apart s t ≡ false) later

abbrev pub AreListedWell : ℕ → ℕ → ℕ → List Suspect → List Suspect → Type 0
AreListedWell failing successful apart suspects [] = Unit {0}
AreListedWell failing successful apart suspects (s ∷ more) =
    IsListedWell failing successful apart suspects s more × AreListedWell failing successful apart suspects more

abbrev pub EachIsTheBestOfItsPlace : Type 0
EachIsTheBestOfItsPlace = (failing successful apart most : ℕ) (suspects rows : List Suspect) → AreListed failing successful apart most suspects rows
    → AreListedWell failing successful apart suspects rows

-- a suspect that isn't listed is near a listed one that is as good or better, where there was room for more
pub record IsStoodFor (failing successful apart : ℕ) (rows : List Suspect) (t : Suspect) : Type 0 where
  pub by : Suspect
  pub listed : Contains rows by
  pub near : are_near apart by t ≡ true
  pub better : IsBetter failing successful t by → ⊥

abbrev pub EachIsStoodFor : Type 0
EachIsStoodFor = (failing successful apart most : ℕ) (suspects rows : List Suspect) → AreListed failing successful apart most suspects rows
    → length rows < most → All (IsStoodFor failing successful apart rows) suspects
