-- The failing and the successful runs of a collection, and how far its reports were looked at.
use Rattle.std.specs.Prelude.{◌≡◌, ℕ, ◌+◌, ◌≤◌, Bool, true, false, List, ◌++◌, count_by, filter, All}
use Rattle.collector.specs.Spelling.{RunsFrom}
use Rattle.report_file.specs.declared.label.Label.{Label}
use Rattle.report_file.specs.declared.report.Report.{Report}
use Rattle.elimination_tallies.specs.declared.labelled.LabelledRun.{LabelledRun}
use Rattle.elimination_tallies.specs.Recount.{is_failing, runs_of, is_successful}

-- the run counts as failing, or as successful
abbrev pub is_counted_label : Bool → Label → Bool
is_counted_label true label = is_failing label
is_counted_label false label = is_successful label

abbrev pub counted_runs : Bool → List LabelledRun → List LabelledRun
counted_runs failing runs = filter (λ (r : LabelledRun). is_counted_label failing r.label) runs

abbrev pub run_count : Bool → List LabelledRun → ℕ
run_count failing runs = count_by (λ (r : LabelledRun). is_counted_label failing r.label) runs

-- the reports up to a run, and those of later runs
pub record IsCut (reports : List Report) (last : ℕ) (before after : List Report) : Type 0 where
  pub whole : reports ≡ before ++ after
  pub passed : All (λ (r : Report). r.run ≤ last) before
  pub rising : RunsFrom (last + 1) after

-- so many of the runs up to this one are counted
pub record IsCounted (failing : Bool) (reports : List Report) (last count : ℕ) : Type 0 where
  pub before : List Report
  pub after : List Report
  pub cut : IsCut reports last before after
  pub counted : count ≡ run_count failing (runs_of before)
