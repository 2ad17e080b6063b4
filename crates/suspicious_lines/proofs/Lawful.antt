-- Laws of suspicious lines.
use Rattle.std.proofs.Common.{◌≡◌, ℕ, zero, suc, ◌<◌, inl, inr, Bool, true, false, not, cond, List, [], ◌∷◌, length, sym, ap, subst, ◌∙◌, arith}
use Rattle.std.specs.Prelude.{All, Contains, IsPermutation, slice_index_or}
use Rattle.std.proofs.lemmas.Bool.{cases_Bool}
use Rattle.std.proofs.lemmas.List.Elements.{All-contains, All-weaker, Contains-get_or, filter_passes}
use Rattle.collector.specs.Sites.{branches_of}
use Rattle.flow.specs.declared.site.Site.{Site}
use Rattle.flow.specs.declared.site.TableParts.{TableParts}
use Rattle.flow.specs.Predicates.{IsPredicate}
use Rattle.elimination_tallies.specs.declared.labelled.LabelledRun.{LabelledRun}
use Rattle.elimination_tallies.specs.Recount.{failing_runs, is_successful, recount}
use Rattle.elimination_tallies.proofs.RunChanges.{SameSums, any-order-sums, same-failing, same-recount}
use Rattle.association.specs.declared.suspect.Suspect.{Suspect}
use Rattle.association.specs.Order.{IsBetter}
use Rattle.suspicious_lines.specs.Laws.{AreListedWell, IsListedWell, IsStoodFor, SuspectsAreThePredicates}
use Rattle.suspicious_lines.specs.Listing.{AreListed, apart_from, are_near}
use Rattle.suspicious_lines.specs.Places.{place_count, place_of}
use Rattle.suspicious_lines.specs.Suspects.{successful_runs, suspect_at, suspects_of}
use Rattle.suspicious_lines.specs.Text.{AreLinesOf, suspicious_text}
use Rattle.suspicious_lines.proofs.Finding.{suspect-of, suspects-all, suspects-distinct, suspects-same}
use Rattle.suspicious_lines.proofs.ListLemmas.{listed-all, one-list}
use Rattle.suspicious_lines.proofs.Members.{filter-keeps, filter-member, first-member, later-member, no-member}

predicate-listed : (table : TableParts) (runs : List LabelledRun) (predicate place number : ℕ) (site : Site) → IsPredicate table.sites predicate place site number → 0 < (recount (branches_of table.sites) runs predicate).a
    → Contains (suspects_of table runs) (suspect_at (recount (branches_of table.sites) runs) site predicate)
predicate-listed table runs predicate place number site is some =
    suspects-all (recount (branches_of table.sites) runs) 0 table.sites place number predicate site is.stands is.own (omega (arith, is.is)) some

listed-true : (table : TableParts) (runs : List LabelledRun) → All (λ (s : Suspect). 0 < (recount (branches_of table.sites) runs s.predicate).a) (suspects_of table runs)
listed-true table runs k d less =
    let s = slice_index_or (suspects_of table runs) k d in
    let it = suspect-of (recount (branches_of table.sites) runs) 0 table.sites s (Contains-get_or (suspects_of table runs) k d less) in
    omega (arith, it.some, ap (λ (x : Suspect). x.tally.a) it.is)

pub suspects-predicates : SuspectsAreThePredicates
suspects-predicates = record { each = predicate-listed; only = listed-true }

pub one-text : (table : TableParts) (runs : List LabelledRun) (most apart : ℕ) (one other : List ℕ) → AreLinesOf table runs most apart one → AreLinesOf table runs most apart other → one ≡ other
one-text table runs most apart one other a b =
    let same = one-list (failing_runs runs) (successful_runs runs) apart most (suspects_of table runs) a.rows b.rows (suspects-distinct (recount (branches_of table.sites) runs) 0 table.sites) a.listed b.listed in
    a.text_is ∙ ap (suspicious_text table (failing_runs runs) (successful_runs runs) (place_count (suspects_of table runs))) same ∙ sym b.text_is

pub same-successful : (xs ys : List LabelledRun) → SameSums xs ys → successful_runs xs ≡ successful_runs ys
same-successful xs ys same = same.sums (λ (r : LabelledRun). cond (is_successful r.label) 1 0)

pub same-suspects : (table : TableParts) (xs ys : List LabelledRun) → SameSums xs ys → suspects_of table xs ≡ suspects_of table ys
same-suspects table xs ys same = suspects-same (recount (branches_of table.sites) xs) (recount (branches_of table.sites) ys) 0 table.sites (λ p _. same-recount (branches_of table.sites) xs ys p same)

pub listed-same : (f g s t apart most : ℕ) (xs ys rows : List Suspect) → f ≡ g → s ≡ t → xs ≡ ys → AreListed f s apart most xs rows → AreListed g t apart most ys rows
listed-same f g s t apart most xs ys rows one two three is =
    subst (λ (zs : List Suspect). AreListed g t apart most zs rows) three (subst (λ n. AreListed g n apart most xs rows) two (subst (λ n. AreListed n s apart most xs rows) one is))

pub any-order : (table : TableParts) (runs others : List LabelledRun) (most apart : ℕ) (text : List ℕ) → IsPermutation runs others → AreLinesOf table runs most apart text → AreLinesOf table others most apart text
any-order table runs others most apart text order is =
    let same = any-order-sums runs others order in
    let fails = same-failing runs others same in
    let succeeds = same-successful runs others same in
    let suspects = same-suspects table runs others same in record {
      rows = is.rows;
      listed = listed-same (failing_runs runs) (failing_runs others) (successful_runs runs) (successful_runs others) apart most (suspects_of table runs) (suspects_of table others) is.rows fails succeeds suspects is.listed;
      text_is = is.text_is ∙ ap (λ n. suspicious_text table n (successful_runs runs) (place_count (suspects_of table runs)) is.rows) fails
          ∙ ap (λ n. suspicious_text table (failing_runs others) n (place_count (suspects_of table runs)) is.rows) succeeds
          ∙ ap (λ (xs : List Suspect). suspicious_text table (failing_runs others) (successful_runs others) (place_count xs) is.rows) suspects;
    }

-- suspects of one place are near the same ones
near-place : (apart : ℕ) (s t u : Suspect) → place_of t ≡ place_of u → are_near apart s t ≡ are_near apart s u
near-place apart s t u same =
    let make : ℕ × ℕ → Suspect = λ p. record { predicate = 0; scheme = s.scheme; function = p.0; line = p.1; tally = s.tally } in
    ap (λ p. are_near apart s (make p)) same

not-near : (b : Bool) → not b ≡ true → b ≡ false
not-near true is = sym is
not-near false is = cc

not-is : (b : Bool) → b ≡ false → not b ≡ true
not-is b is = ap not is

apart-member : (apart : ℕ) (s t : Suspect) (suspects : List Suspect) → Contains (apart_from apart s suspects) t → Contains suspects t × (are_near apart s t ≡ false)
apart-member apart s t suspects has =
    let kept = filter-member (λ (x : Suspect). not (are_near apart s x)) suspects t has in
    (kept.0, not-near (are_near apart s t) kept.1)

apart-all : (apart : ℕ) (s : Suspect) (suspects : List Suspect) → All (λ (t : Suspect). are_near apart s t ≡ false) (apart_from apart s suspects)
apart-all apart s suspects =
    All-weaker (λ (t : Suspect). not (are_near apart s t) ≡ true) (λ (t : Suspect). are_near apart s t ≡ false) (λ t is. not-near (are_near apart s t) is) (apart_from apart s suspects) (filter_passes (λ (x : Suspect). not (are_near apart s x)) suspects)

-- what is listed well among those apart from another one is listed well among all
well-among : (failing successful apart : ℕ) (suspects : List Suspect) (s t : Suspect) (later : List Suspect) → IsListedWell failing successful apart (apart_from apart s suspects) t later → IsListedWell failing successful apart suspects t later
well-among failing successful apart suspects s t later well =
    let here = apart-member apart s t suspects well.is_one in record {
      is_one = here.0;
      of_place = λ k d less place.
          let u = slice_index_or suspects k d in
          let far : are_near apart s u ≡ false = near-place apart s u t place ∙ here.1 in
          let kept = filter-keeps (λ (x : Suspect). not (are_near apart s x)) suspects u (Contains-get_or suspects k d less) (not-is (are_near apart s u) far) in
          All-contains (λ (x : Suspect). place_of x ≡ place_of t → IsBetter failing successful x t → ⊥) (apart_from apart s suspects) u well.of_place kept place;
      order = well.order;
      far = well.far;
    }

all-among : (failing successful apart : ℕ) (suspects : List Suspect) (s : Suspect) (rows : List Suspect) → AreListedWell failing successful apart (apart_from apart s suspects) rows → AreListedWell failing successful apart suspects rows
all-among failing successful apart suspects s [] well = tt
all-among failing successful apart suspects s (t ∷ more) well = (well-among failing successful apart suspects s t more well.0, all-among failing successful apart suspects s more well.1)

pub listed-well : (failing successful apart most : ℕ) (suspects rows : List Suspect) → AreListed failing successful apart most suspects rows → AreListedWell failing successful apart suspects rows
listed-well failing successful apart zero suspects rows is = subst (AreListedWell failing successful apart suspects) (sym is) tt
listed-well failing successful apart (suc most) suspects [] is = tt
listed-well failing successful apart (suc most) suspects (s ∷ more) is =
    let kept = apart_from apart s suspects in
    let worse : All (λ (t : Suspect). IsBetter failing successful t s → ⊥) kept = λ k d less.
    All-contains (λ (t : Suspect). IsBetter failing successful t s → ⊥) suspects (slice_index_or kept k d) is.0.best (apart-member apart s (slice_index_or kept k d) suspects (Contains-get_or kept k d less)).0 in (
      record {
        is_one = is.0.is_one;
        of_place = All-weaker (λ (t : Suspect). IsBetter failing successful t s → ⊥) (λ (t : Suspect). place_of t ≡ place_of s → IsBetter failing successful t s → ⊥) (λ t none _. none) suspects is.0.best;
        order = listed-all (λ (t : Suspect). IsBetter failing successful t s → ⊥) failing successful apart most kept more worse is.1;
        far = listed-all (λ (t : Suspect). are_near apart s t ≡ false) failing successful apart most kept more (apart-all apart s suspects) is.1;
      },
      all-among failing successful apart suspects s more (listed-well failing successful apart most kept more is.1),
    )

stood-later : (failing successful apart : ℕ) (s : Suspect) (rows : List Suspect) (t : Suspect) → IsStoodFor failing successful apart rows t → IsStoodFor failing successful apart (s ∷ rows) t
stood-later failing successful apart s rows t by = record { by = by.by; listed = later-member s rows by.by by.listed; near = by.near; better = by.better }

stood-one : (failing successful apart most : ℕ) (suspects rows : List Suspect) (t : Suspect) → AreListed failing successful apart most suspects rows → length rows < most → Contains suspects t → IsStoodFor failing successful apart rows t
stood-one failing successful apart zero suspects rows t is room has = absurd (omega (arith, room))
stood-one failing successful apart (suc most) suspects [] t is room has = absurd (no-member t (subst (λ (xs : List Suspect). Contains xs t) is has))
stood-one failing successful apart (suc most) suspects (s ∷ more) t is room has =
    elim (cases_Bool (are_near apart s t)) [
      | inl near ↦ record { by = s; listed = first-member s more; near = near; better = All-contains (λ (x : Suspect). IsBetter failing successful x s → ⊥) suspects t is.0.best has }
      | inr far ↦
          stood-later failing successful apart s more t
          (stood-one failing successful apart most (apart_from apart s suspects) more t is.1 (omega (arith, room)) (filter-keeps (λ (x : Suspect). not (are_near apart s x)) suspects t has (not-is (are_near apart s t) far)))
    ]

pub stood-for : (failing successful apart most : ℕ) (suspects rows : List Suspect) → AreListed failing successful apart most suspects rows → length rows < most → All (IsStoodFor failing successful apart rows) suspects
stood-for failing successful apart most suspects rows is room k d less = stood-one failing successful apart most suspects rows (slice_index_or suspects k d) is room (Contains-get_or suspects k d less)
