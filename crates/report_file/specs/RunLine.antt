-- The line of a run in a collection: `run R OUTCOME label L work FAST SLOW TESTS`, and without its label in the first version.
use Rattle.std.specs.Prelude.{◌≡◌, ℕ, true, List, ◌∷◌, ◌++◌, map, Option}
use Rattle.cbi_base.specs.Numbers.{◌>>=◌}
use Rattle.report_file.specs.declared.draft.Version.{Version}
use Rattle.report_file.specs.declared.draft.Version.TheVariants.{First, Second}
use Rattle.report_file.specs.declared.report.Report.{Report}
use Rattle.report_file.specs.declared.run_line.RunLine.{RunLine}
use Rattle.report_file.specs.Fields.{value_at_end, label_at, outcome_at, run_at, work_at}
use Rattle.report_file.specs.Label.{label_of}
use Rattle.report_file.specs.Report.{IsOutcome, IsRun, IsWork}
use Rattle.report_file.specs.Spelling.{label_fields, outcome_fields, run_fields, site_fields, work_fields}

abbrev pub run_line_fields : Version → RunLine → List (List ℕ)
run_line_fields First x = run_fields x.run ++ (outcome_fields x.outcome ++ work_fields x.work)
run_line_fields Second x = run_fields x.run ++ (outcome_fields x.outcome ++ (label_fields x.label ++ work_fields x.work))

-- in the first version the label is the outcome's
pub record IsRunLine (version : Version) (x : RunLine) : Type 0 where
  pub run : IsRun x.run
  pub outcome : IsOutcome x.outcome
  pub work : IsWork x.work
  pub label : version ≡ First → x.label ≡ label_of x.outcome true

-- what the fields of such a line are read as, by a plain body
abbrev pub first_run_line : List (List ℕ) → Option RunLine
first_run_line fields = do
  (run, behind_run) ← run_at fields
  (outcome, behind_outcome) ← outcome_at behind_run
  (work, behind_work) ← work_at behind_outcome
  value_at_end (record { run = run; outcome = outcome; label = label_of outcome true; work = work }, behind_work)

abbrev pub second_of : List (List ℕ) → Option RunLine
second_of fields = do
  (run, behind_run) ← run_at fields
  (outcome, behind_outcome) ← outcome_at behind_run
  (label, behind_label) ← label_at behind_outcome
  (work, behind_work) ← work_at behind_label
  value_at_end (record { run = run; outcome = outcome; label = label; work = work }, behind_work)

-- the line of a report's run, and the lines of its sites
abbrev pub line_of : Report → RunLine
line_of r = record { run = r.run; outcome = r.outcome; label = r.label; work = r.work }

abbrev pub line_rows : Report → List (List (List ℕ))
line_rows r = run_line_fields Second (line_of r) ∷ map site_fields r.entries
