-- The text of bugs: of each its leader, the least number of its own runs, and the other places of its round; then how many failing runs are left.
use Rattle.std.specs.Prelude.{◌≡◌, ℕ, ◌+◌, List, [], ◌∷◌, ◌++◌, map, codes, decimal, All}
use Rattle.cbi_base.specs.Text.{line_of_fields, text_of}
use Rattle.collector.specs.Sites.{branches_of}
use Rattle.flow.specs.declared.site.TableParts.{TableParts}
use Rattle.flow.specs.Predicates.{predicate_text}
use Rattle.report_file.specs.declared.report.Report.{Report}
use Rattle.elimination_tallies.specs.Recount.{failing_runs, runs_of}
use Rattle.association.specs.declared.suspect.Suspect.{Suspect}
use Rattle.suspicious_lines.specs.Suspects.{successful_runs}
use Rattle.suspicious_lines.specs.Text.{IsShown, number_fields, place_fields, strength_field}
use Rattle.bug_rounds.specs.declared.bug.Bug.{Bug}
use Rattle.bug_rounds.specs.Rounds.{AreRounds, left_behind}

-- the line of a bug, where so many runs are successful
abbrev pub bug_fields : TableParts → ℕ → ℕ → Bug → List (List ℕ)
bug_fields table successful number bug =
    codes "bug" ∷ decimal number ∷ decimal bug.leader.predicate ∷ [] ++ place_fields table bug.leader ++ number_fields bug.leader
    ++ strength_field bug.failing successful bug.leader ∷ codes "first" ∷ decimal bug.first ∷ predicate_text table.sites bug.leader.predicate ∷ []

-- the line of another place of a round with so many live failing runs
abbrev pub also_fields : TableParts → ℕ → ℕ → Suspect → List (List ℕ)
also_fields table failing successful s =
    codes "also" ∷ [] ++ place_fields table s
    ++ decimal s.tally.a ∷ decimal s.tally.b ∷ strength_field failing successful s ∷ predicate_text table.sites s.predicate ∷ []

abbrev pub bug_rows : TableParts → ℕ → ℕ → Bug → List (List (List ℕ))
bug_rows table successful number bug = bug_fields table successful number bug ∷ map (also_fields table bug.failing successful) bug.others

-- the bugs in their order, the first of them with this number
abbrev pub bugs_rows : TableParts → ℕ → ℕ → List Bug → List (List (List ℕ))
bugs_rows table successful number [] = []
bugs_rows table successful number (bug ∷ more) = bug_rows table successful number bug ++ bugs_rows table successful (number + 1) more

abbrev pub bugs_head : ℕ → ℕ → List (List ℕ)
bugs_head failing successful = codes "bugs" ∷ decimal failing ∷ decimal successful ∷ []

abbrev pub rest_fields : ℕ → List (List ℕ)
rest_fields rest = codes "rest" ∷ decimal rest ∷ []

-- so many runs fail and so many are successful; so many failing ones are left
abbrev pub bugs_text : TableParts → ℕ → ℕ → ℕ → List Bug → List ℕ
bugs_text table failing successful rest bugs =
    text_of (map line_of_fields (bugs_head failing successful ∷ bugs_rows table successful 1 bugs ++ rest_fields rest ∷ (codes "end" ∷ []) ∷ []))

-- a bug that a text can have
abbrev pub IsBugShown : TableParts → ℕ → Bug → Type 0
IsBugShown table successful bug = All (IsShown table bug.failing successful) (bug.leader ∷ bug.others)

-- the text of at most so many bugs of the runs, each with fewer than so many other places
pub record AreBugsOf (table : TableParts) (reports : List Report) (most also : ℕ) (text : List ℕ) : Type 0 where
  pub bugs : List Bug
  pub rounds : AreRounds table also most reports bugs
  pub text_is : text
      ≡ bugs_text table (failing_runs (runs_of reports)) (successful_runs (runs_of reports))
      (failing_runs (runs_of (left_behind (branches_of table.sites) reports bugs))) bugs
