-- The live failing runs of a collection, kept by their numbers.
use Rattle.std.specs.Prelude.{◌≡◌, ℕ, ◌≤◌, ◌==◌, ◌&&◌, Bool, not, List, [], ◌∷◌, length, map, filter, All}
use Rattle.std.specs.List.{list_any}
use Rattle.report_file.specs.declared.report.Report.{Report}
use Rattle.elimination_tallies.specs.declared.labelled.LabelledRun.{LabelledRun}
use Rattle.elimination_tallies.specs.Recount.{is_failing, runs_of}
use Rattle.bug_rounds.specs.Rounds.{is_own_run}

-- whether the report with this number is of a leader's own run
abbrev pub is_own_number : List Bool → List Report → ℕ → ℕ → Bool
is_own_number branches reports leader run = list_any (λ (r : Report). (run == r.run) && is_own_run branches leader r) reports

-- the numbers of the leader's own runs among these, and the other ones
abbrev pub own_among : List Bool → List Report → ℕ → List ℕ → List ℕ
own_among branches reports leader live = filter (is_own_number branches reports leader) live

abbrev pub others_among : List Bool → List Report → ℕ → List ℕ → List ℕ
others_among branches reports leader live = filter (λ run. not (is_own_number branches reports leader run)) live

-- the numbers of the failing runs
abbrev pub failing_numbers : List Report → List ℕ
failing_numbers reports = map (λ (r : Report). r.run) (filter (λ (r : Report). is_failing r.label) reports)

-- each number has all the following above it
abbrev pub AreRising : List ℕ → Type 0
AreRising [] = Unit {0}
AreRising (n ∷ more) = All (λ m. n ≤ m) more × AreRising more

-- the runs are of some reports of the collection, and these are the numbers of those that fail
pub record AreLive (branches : List Bool) (reports : List Report) (runs : List LabelledRun) (numbers : List ℕ) : Type 0 where
  pub live : List Report
  pub runs_are : runs ≡ runs_of live
  pub numbers_are : numbers ≡ failing_numbers live
  pub known : All (λ (r : Report). (leader : ℕ) → is_own_number branches reports leader r.run ≡ is_own_run branches leader r) live
  pub rising : AreRising numbers
  pub few : length runs ≤ 100000
