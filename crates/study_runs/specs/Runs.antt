-- The runs of a study by a program: each by its number, on the bank and the line that are made for it.
use Rattle.std.specs.Prelude.{ℕ, suc, true, List, [], ◌∷◌, replicate}
use Rattle.cbi_base.specs.declared.identity.ProgramId.{ProgramId}
use Rattle.countdown_bank.specs.Bank.{BankState, number_after}
use Rattle.flow.specs.declared.program.ProgramParts.{ProgramParts}
use Rattle.flow.specs.Words.{MachineEnds, Ending}
use Rattle.study_runs.specs.MadeRun.{IsMadeRun}
use Rattle.report_file.specs.declared.report.Report.{Report}
use Rattle.planned_runs.specs.Runs.{planned_report}
use Rattle.study_runs.specs.declared.plan.StudyPlan.{StudyPlan}
pub use Rattle.planned_runs.specs.Runs.{all_seen, marks_in}

-- the run with this number ends so
pub record IsRunOf (p : ProgramParts) (plan : StudyPlan) (number : ℕ) (ending : Ending) : Type 0 where
  pub bank : BankState
  pub input : List ℕ
  pub made : IsMadeRun plan.seed plan.rate number bank input
  pub ends : MachineEnds p input (number_after bank) plan.turns ending

-- so do the runs from this number on, one after another
abbrev pub AreRunsFrom : ProgramParts → StudyPlan → ℕ → List Ending → Type 0
AreRunsFrom p plan number [] = Unit {0}
AreRunsFrom p plan number (ending ∷ more) = IsRunOf p plan number ending × AreRunsFrom p plan (suc number) more

-- a study's reports are of a program without a file, so without an identity
abbrev pub no_identity : ProgramId
no_identity = record { bytes = replicate 32 0 }

-- The report of a run. Nothing says what its output should be, so that a run that ended succeeds.
abbrev pub report_of : ProgramParts → ℕ → Ending → Report
report_of p number ending = planned_report p no_identity number (record { ending = ending; is_right = true })

-- the reports of the runs from this number on
abbrev pub reports_from : ProgramParts → ℕ → List Ending → List Report
reports_from p number [] = []
reports_from p number (ending ∷ more) = report_of p number ending ∷ reports_from p (suc number) more
