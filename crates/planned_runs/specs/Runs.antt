-- The runs of a program by a plan: the run of the machine that each number has, and its report.
use Rattle.std.specs.Prelude.{◌≡◌, ℕ, zero, suc, Bool, List, [], ◌∷◌, ◌++◌, length, map, flat_map, sum_by}
use Rattle.cbi_base.specs.declared.identity.ProgramId.{ProgramId}
use Rattle.cbi_base.specs.declared.observation.Observation.{Observation}
use Rattle.countdown_bank.specs.Bank.{number_after}
use Rattle.expected.specs.Expected.{is_expected_output}
use Rattle.flow.specs.declared.program.ProgramParts.{ProgramParts}
use Rattle.flow.specs.Words.{counts_of, MachineEnds, Ending}
use Rattle.report_file.specs.declared.report.Report.{Report}
use Rattle.report_file.specs.Label.{label_of}
use Rattle.report_file.specs.Report.{entries_of}
use Rattle.planned_runs.specs.declared.input.RunInput.{RunInput}

-- how a run of the machine ended, and whether its output is as it should be
pub record JudgedRun : Type 0 where
  pub ending : Ending
  pub is_right : Bool

-- `gives` says what a run is made on, by its number
module _ (p : ProgramParts) (gives : ℕ → RunInput → Type 0) (turns : ℕ) where
  -- the run with this number ends so, on what it is made on
  pub record IsPlannedRun (number : ℕ) (run : JudgedRun) : Type 0 where
    pub on : RunInput
    pub given : gives number on
    pub ends : MachineEnds p on.input (number_after on.bank) turns run.ending
    pub right_is : run.is_right ≡ is_expected_output on.expect run.ending.output

  -- so do the runs from this number on, one after another
  abbrev pub ArePlannedRuns : ℕ → List JudgedRun → Type 0
  ArePlannedRuns number [] = Unit {0}
  ArePlannedRuns number (run ∷ more) = IsPlannedRun number run × ArePlannedRuns (suc number) more

abbrev pub endings_of : List JudgedRun → List Ending
endings_of runs = map (λ (r : JudgedRun). r.ending) runs

-- all that was observed in the runs, one after another
abbrev pub all_seen : List Ending → List Observation
all_seen endings = flat_map (λ (e : Ending). e.seen) endings

-- how many entries the reports of the runs have
abbrev pub marks_in : ProgramParts → List Ending → ℕ
marks_in p endings = sum_by (λ (e : Ending). length (entries_of (counts_of p.sites e.seen))) endings

-- the report of the run with this number, of the program with this identity
abbrev pub planned_report : ProgramParts → ProgramId → ℕ → JudgedRun → Report
planned_report p id number run = record {
  program = id;
  run = number;
  outcome = run.ending.outcome;
  label = label_of run.ending.outcome run.is_right;
  work = run.ending.work;
  entries = entries_of (counts_of p.sites run.ending.seen);
}

-- the reports of the runs from this number on
abbrev pub planned_reports : ProgramParts → ProgramId → ℕ → List JudgedRun → List Report
planned_reports p id number [] = []
planned_reports p id number (run ∷ more) = planned_report p id number run ∷ planned_reports p id (suc number) more

-- what is read for so many numbers from this one on, where `names` says it of each
abbrev pub names_from : (ℕ → List (List ℕ)) → ℕ → ℕ → List (List ℕ)
names_from names number zero = []
names_from names number (suc count) = names number ++ names_from names (suc number) count
