-- The text of what is found: how many pairs there are and how many of them were counted and skipped, and then the best one.
use Rattle.std.specs.Prelude.{ℕ, ◌<◌, ◌≤◌, List, [], ◌∷◌, map, codes, decimal, Option, None, Some, slice_index_or, IfSome}
use Rattle.cbi_base.specs.Text.{line_of_fields, text_of}
use Rattle.flow.specs.declared.site.Site.{Site}
use Rattle.flow.specs.declared.site.TableParts.{TableParts}
use Rattle.flow.specs.Predicates.{predicate_count, predicate_text, site_at}
use Rattle.fractions.specs.Fraction.{millionths_of}
use Rattle.fractions.specs.Tally.{IsTally, Passes, importance_of}
use Rattle.compound.specs.declared.chosen.Chosen.{Chosen}
use Rattle.compound.specs.declared.chosen.PairResult.{PairResult}

abbrev pub count_fields : PairResult → List (List ℕ)
count_fields found = codes "pairs" ∷ decimal found.pairs ∷ codes "counted" ∷ decimal found.counted ∷ codes "skipped" ∷ decimal found.skipped ∷ []

-- the two predicates, the numbers of the pair, and its importance in millionths, rounded down
abbrev pub best_fields : Chosen → List (List ℕ)
best_fields c =
    codes "best" ∷ decimal c.left ∷ decimal c.right ∷ decimal c.tally.a ∷ decimal c.tally.b ∷ decimal c.tally.c ∷ decimal c.tally.d
    ∷ decimal (millionths_of (importance_of c.tally c.failing)) ∷ []

-- where a predicate stands, and what it says
abbrev pub place_fields : List (List ℕ) → Option Site → List ℕ → List (List ℕ)
place_fields functions None text = []
place_fields functions (Some site) text = slice_index_or functions site.function [] ∷ decimal site.line ∷ text ∷ []

abbrev pub member_fields : TableParts → List ℕ → ℕ → List (List ℕ)
member_fields table word p = word ∷ place_fields table.functions (site_at table.sites p) (predicate_text table.sites p)

abbrev pub best_rows : TableParts → Option Chosen → List (List (List ℕ))
best_rows table None = (codes "best" ∷ codes "none" ∷ []) ∷ []
best_rows table (Some c) = best_fields c ∷ member_fields table (codes "left") c.left ∷ member_fields table (codes "right") c.right ∷ []

abbrev pub pairs_text : TableParts → PairResult → List ℕ
pairs_text table found = text_of (map line_of_fields (count_fields found ∷ best_rows table found.best))

-- a best pair that a text can have: its predicates are of the table, and it passes
pub record IsShown (table : TableParts) (c : Chosen) : Type 0 where
  pub left : c.left < predicate_count table.sites
  pub right : c.right < predicate_count table.sites
  pub tally : IsTally c.tally
  pub passes : Passes c.tally
  pub observed : c.tally.c ≤ c.failing
  pub failing : c.failing ≤ 100000

abbrev pub HasText : TableParts → PairResult → Type 0
HasText table found = IfSome found.best (IsShown table)
