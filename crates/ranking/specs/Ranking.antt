-- The text of a ranking: a header, and a line for each leader in turn; the fields of a line are parted by commas.
use Rattle.std.specs.Prelude.{ℕ, ◌<◌, ◌≤◌, List, [], ◌∷◌, ◌++◌, map, codes, decimal, Option, None, Some, slice_index_or, All}
use Rattle.std.specs.List.{enumerate_from, join_with_byte}
use Rattle.cbi_base.specs.Text.{text_of}
use Rattle.flow.specs.declared.site.Site.{Site}
use Rattle.flow.specs.declared.site.SiteKind.{SiteKind}
use Rattle.flow.specs.declared.site.SiteKind.TheVariants.{Branch, Return, Pair}
use Rattle.flow.specs.declared.site.TableParts.{TableParts}
use Rattle.flow.specs.Predicates.{predicate_count, predicate_text, site_at}
use Rattle.fractions.specs.declared.tally.Tally.{Tally}
use Rattle.fractions.specs.Fraction.{millionths_of}
use Rattle.fractions.specs.Tally.{IsTally, Passes, importance_of}
use Rattle.elimination_tallies.specs.declared.listed.Listed.{Listed}
use Rattle.ranking.specs.Shares.{context_of, failure_of, increase_of}

abbrev pub header_fields : List (List ℕ)
header_fields =
    codes "rank" ∷ codes "predicate" ∷ codes "scheme" ∷ codes "function" ∷ codes "line" ∷ codes "text" ∷ codes "f" ∷ codes "s" ∷ codes "fobs"
    ∷ codes "sobs" ∷ codes "failure" ∷ codes "context" ∷ codes "increase" ∷ codes "importance" ∷ []

-- the scheme of a site
abbrev pub scheme_word : SiteKind → List ℕ
scheme_word (Branch word) = codes "branches"
scheme_word (Return callee) = codes "returns"
scheme_word (Pair target slot partner) = codes "pairs"

-- where a predicate stands, and what it says
abbrev pub place_fields : List (List ℕ) → Option Site → List ℕ → List (List ℕ)
place_fields functions None text = []
place_fields functions (Some site) text = scheme_word site.kind ∷ slice_index_or functions site.function [] ∷ decimal site.line ∷ text ∷ []

abbrev pub tally_fields : Tally → List (List ℕ)
tally_fields t = decimal t.a ∷ decimal t.b ∷ decimal t.c ∷ decimal t.d ∷ []

-- its fractions in millionths, rounded down
abbrev pub share_fields : Tally → ℕ → List (List ℕ)
share_fields t failing =
    decimal (millionths_of (failure_of t)) ∷ decimal (millionths_of (context_of t)) ∷ decimal (millionths_of (increase_of t))
    ∷ decimal (millionths_of (importance_of t failing)) ∷ []

abbrev pub row_fields : TableParts → ℕ → Listed → List (List ℕ)
row_fields table rank row =
    decimal rank ∷ decimal row.predicate ∷ []
    ++ place_fields table.functions (site_at table.sites row.predicate) (predicate_text table.sites row.predicate) ++ tally_fields row.tally
    ++ share_fields row.tally row.failing

-- the rows in their order, the first of them with rank 1
abbrev pub ranking_rows : TableParts → List Listed → List (List (List ℕ))
ranking_rows table rows = header_fields ∷ map (λ e. row_fields table e.0 e.1) (enumerate_from 1 rows)

abbrev pub ranking_text : TableParts → List Listed → List ℕ
ranking_text table rows = text_of (map (join_with_byte 44) (ranking_rows table rows))

-- a row that a text can have: its predicate is one of the table and passes
pub record IsRowOf (table : TableParts) (row : Listed) : Type 0 where
  pub is_one : row.predicate < predicate_count table.sites
  pub tally : IsTally row.tally
  pub passes : Passes row.tally
  pub observed : row.tally.c ≤ row.failing
  pub failing : row.failing ≤ 100000

abbrev pub AreRowsOf : TableParts → List Listed → Type 0
AreRowsOf table rows = All (IsRowOf table) rows
