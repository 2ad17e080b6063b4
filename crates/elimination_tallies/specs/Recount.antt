-- The numbers of a predicate over a list of labelled runs (PLDI 2005 section 3).
use Rattle.std.specs.Prelude.{ℕ, Bool, true, false, ◌&&◌, List, map, count_by}
use Rattle.std.specs.List.{list_any}
use Rattle.fractions.specs.declared.tally.Tally.{Tally}
use Rattle.report_file.specs.declared.label.Label.{Label}
use Rattle.report_file.specs.declared.label.Label.TheVariants.{Fail, Pass, Uncounted}
use Rattle.report_file.specs.declared.report.Report.{Report}
use Rattle.elimination_tallies.specs.declared.labelled.LabelledRun.{LabelledRun}
use Rattle.elimination_tallies.specs.Predicates.{is_observed_in_entry, is_true_in_entry}

-- a collection's runs, each with its label and what it observed
abbrev pub run_of_report : Report → LabelledRun
run_of_report r = record { label = r.label; entries = r.entries }

abbrev pub runs_of : List Report → List LabelledRun
runs_of reports = map run_of_report reports

abbrev pub is_failing : Label → Bool
is_failing Fail = true
is_failing Pass = false
is_failing Uncounted = false

abbrev pub is_successful : Label → Bool
is_successful Fail = false
is_successful Pass = true
is_successful Uncounted = false

-- the predicate was true in the run at least once
abbrev pub is_true : List Bool → ℕ → LabelledRun → Bool
is_true branches predicate r = list_any (is_true_in_entry branches predicate) r.entries

-- its site was observed in the run at least once
abbrev pub is_observed : List Bool → ℕ → LabelledRun → Bool
is_observed branches predicate r = list_any (is_observed_in_entry branches predicate) r.entries

-- the failing and the successful runs in which it was true, and those in which it was observed
abbrev pub recount : List Bool → List LabelledRun → ℕ → Tally
recount branches runs predicate = record {
  a = count_by (λ (r : LabelledRun). is_failing r.label && is_true branches predicate r) runs;
  b = count_by (λ (r : LabelledRun). is_successful r.label && is_true branches predicate r) runs;
  c = count_by (λ (r : LabelledRun). is_failing r.label && is_observed branches predicate r) runs;
  d = count_by (λ (r : LabelledRun). is_successful r.label && is_observed branches predicate r) runs;
}

-- how many runs fail
abbrev pub failing_runs : List LabelledRun → ℕ
failing_runs runs = count_by (λ (r : LabelledRun). is_failing r.label) runs
