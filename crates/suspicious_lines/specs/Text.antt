-- The text of suspicious lines.
use Rattle.std.specs.Prelude.{◌≡◌, ℕ, ◌<◌, List, [], ◌∷◌, ◌++◌, map, codes, decimal, slice_index_or, length, All}
use Rattle.std.specs.List.{enumerate_from}
use Rattle.cbi_base.specs.Text.{line_of_fields, text_of}
use Rattle.flow.specs.declared.site.TableParts.{TableParts}
use Rattle.flow.specs.Predicates.{predicate_count, predicate_text}
use Rattle.fractions.specs.Fraction.{millionths_of}
use Rattle.elimination_tallies.specs.declared.labelled.LabelledRun.{LabelledRun}
use Rattle.elimination_tallies.specs.Recount.{failing_runs}
use Rattle.association.specs.declared.suspect.Suspect.{Suspect}
use Rattle.association.specs.Order.{IsOfRuns, table_of}
use Rattle.association.specs.Strength.{strength_of}
use Rattle.suspicious_lines.specs.Listing.{AreListed}
use Rattle.suspicious_lines.specs.Places.{place_count}
use Rattle.suspicious_lines.specs.Suspects.{successful_runs, suspects_of}

-- the function and the line of a suspect
abbrev pub place_fields : TableParts → Suspect → List (List ℕ)
place_fields table s = slice_index_or table.functions s.function [] ∷ decimal s.line ∷ []

-- in how many failing and successful runs it is true, and in how many its site is observed
abbrev pub number_fields : Suspect → List (List ℕ)
number_fields s = decimal s.tally.a ∷ decimal s.tally.b ∷ decimal s.tally.c ∷ decimal s.tally.d ∷ []

-- its strength in millionths, rounded down, where so many runs fail and so many are successful
abbrev pub strength_field : ℕ → ℕ → Suspect → List ℕ
strength_field failing successful s = decimal (millionths_of (strength_of (table_of failing successful s)))

abbrev pub line_fields : TableParts → ℕ → ℕ → ℕ → Suspect → List (List ℕ)
line_fields table failing successful number s =
    codes "line" ∷ decimal number ∷ decimal s.predicate ∷ []
    ++ place_fields table s ++ number_fields s ++ strength_field failing successful s ∷ predicate_text table.sites s.predicate ∷ []

abbrev pub lines_head : ℕ → ℕ → ℕ → List (List ℕ)
lines_head failing successful places = codes "lines" ∷ decimal failing ∷ decimal successful ∷ decimal places ∷ []

-- the suspects in their order, the first of them with number 1
abbrev pub lines_rows : TableParts → ℕ → ℕ → ℕ → List Suspect → List (List (List ℕ))
lines_rows table failing successful places rows =
    lines_head failing successful places ∷ []
    ++ map (λ e. line_fields table failing successful e.0 e.1) (enumerate_from 1 rows) ++ (codes "end" ∷ []) ∷ []

abbrev pub suspicious_text : TableParts → ℕ → ℕ → ℕ → List Suspect → List ℕ
suspicious_text table failing successful places rows = text_of (map line_of_fields (lines_rows table failing successful places rows))

-- a suspect that a text can have
pub record IsShown (table : TableParts) (failing successful : ℕ) (s : Suspect) : Type 0 where
  pub predicate : s.predicate < predicate_count table.sites
  pub function : s.function < length table.functions
  pub runs : IsOfRuns failing successful s

abbrev pub AreShown : TableParts → ℕ → ℕ → List Suspect → Type 0
AreShown table failing successful rows = All (IsShown table failing successful) rows

-- the text of at most so many suspicious lines of the runs, each more than so many lines apart from those before it in its function
pub record AreLinesOf (table : TableParts) (runs : List LabelledRun) (most apart : ℕ) (text : List ℕ) : Type 0 where
  pub rows : List Suspect
  pub listed : AreListed (failing_runs runs) (successful_runs runs) apart most (suspects_of table runs) rows
  pub text_is : text ≡ suspicious_text table (failing_runs runs) (successful_runs runs) (place_count (suspects_of table runs)) rows
