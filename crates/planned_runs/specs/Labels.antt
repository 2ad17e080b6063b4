-- How many runs count as what.
use Rattle.std.specs.Prelude.{◌+◌, Bool, true, false, List, count_by}
use Rattle.report_file.specs.declared.label.Label.{Label}
use Rattle.report_file.specs.declared.label.Label.TheVariants.{Fail, Pass, Uncounted}
use Rattle.report_file.specs.Label.{label_of}
use Rattle.planned_runs.specs.declared.labels.LabelCounts.{LabelCounts}
use Rattle.planned_runs.specs.Runs.{JudgedRun}
use Rattle.planned_runs.specs.Sums.{one_if}

abbrev pub counts_as_failed : Label → Bool
counts_as_failed Fail = true
counts_as_failed Pass = false
counts_as_failed Uncounted = false

abbrev pub counts_as_succeeded : Label → Bool
counts_as_succeeded Fail = false
counts_as_succeeded Pass = true
counts_as_succeeded Uncounted = false

abbrev pub counts_as_neither : Label → Bool
counts_as_neither Fail = false
counts_as_neither Pass = false
counts_as_neither Uncounted = true

-- what a run counts as
abbrev pub judged_label : JudgedRun → Label
judged_label run = label_of run.ending.outcome run.is_right

-- how many of the runs failed, succeeded and did neither
abbrev pub labels_of : List JudgedRun → LabelCounts
labels_of runs = record {
  failed = count_by (λ (r : JudgedRun). counts_as_failed (judged_label r)) runs;
  succeeded = count_by (λ (r : JudgedRun). counts_as_succeeded (judged_label r)) runs;
  neither = count_by (λ (r : JudgedRun). counts_as_neither (judged_label r)) runs;
}

-- the numbers with one more run
abbrev pub with_counted : Label → LabelCounts → LabelCounts
with_counted label c = record {
  failed = c.failed + one_if (counts_as_failed label);
  succeeded = c.succeeded + one_if (counts_as_succeeded label);
  neither = c.neither + one_if (counts_as_neither label);
}
