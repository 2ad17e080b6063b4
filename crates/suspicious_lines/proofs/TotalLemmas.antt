-- How many runs fail and are successful, as far as the reports were looked at.
use Rattle.std.proofs.Common.{◌≡◌, ℕ, ◌+◌, ◌≤◌, cond, List, [], ◌∷◌, length, ap, ◌∙◌, arith}
use Rattle.std.proofs.lemmas.List.{length-map}
use Rattle.std.proofs.lemmas.List.Sums.{sum_by-cons}
use Rattle.report_file.specs.declared.report.Report.{Report}
use Rattle.elimination_tallies.specs.declared.labelled.LabelledRun.{LabelledRun}
use Rattle.elimination_tallies.specs.Recount.{failing_runs, is_failing, is_successful, run_of_report, runs_of}
use Rattle.elimination_tallies.specs.Runs.{reports_after}
use Rattle.elimination_tallies.specs.Tallies.{one_if}
use Rattle.suspicious_lines.specs.Suspects.{successful_runs}
use Rattle.suspicious_lines.proofs.Bounds.{totals-most}

-- with those that are still to come they are all
pub record AreTotalsSoFar (reports : List Report) (run failing successful : ℕ) : Type 0 where
  pub failing_are : failing + failing_runs (runs_of (reports_after run reports)) ≡ failing_runs (runs_of reports)
  pub successful_are : successful + successful_runs (runs_of (reports_after run reports)) ≡ successful_runs (runs_of reports)

pub totals-start : (reports : List Report) (run : ℕ) → reports_after run reports ≡ reports → AreTotalsSoFar reports run 0 0
totals-start reports run all = record {
  failing_are = omega (arith, ap (λ (rs : List Report). failing_runs (runs_of rs)) all);
  successful_are = omega (arith, ap (λ (rs : List Report). successful_runs (runs_of rs)) all);
}

fails-next : (r : Report) (rest all : List Report) → all ≡ r ∷ rest → failing_runs (runs_of all) ≡ one_if (is_failing r.label) + failing_runs (runs_of rest)
fails-next r rest all is = ap (λ (rs : List Report). failing_runs (runs_of rs)) is ∙ sum_by-cons (λ (x : LabelledRun). cond (is_failing x.label) 1 0) (run_of_report r) (runs_of rest)

succeeds-next : (r : Report) (rest all : List Report) → all ≡ r ∷ rest → successful_runs (runs_of all) ≡ one_if (is_successful r.label) + successful_runs (runs_of rest)
succeeds-next r rest all is = ap (λ (rs : List Report). successful_runs (runs_of rs)) is ∙ sum_by-cons (λ (x : LabelledRun). cond (is_successful x.label) 1 0) (run_of_report r) (runs_of rest)

pub totals-next : (reports : List Report) (run failing successful f s : ℕ) (r : Report) → AreTotalsSoFar reports run failing successful → reports_after run reports ≡ r ∷ reports_after r.run reports → f ≡ one_if (is_failing r.label) → s ≡ one_if (is_successful r.label)
    → AreTotalsSoFar reports r.run (failing + f) (successful + s)
totals-next reports run failing successful f s r so_far cut f_is s_is = record {
  failing_are = omega (arith, so_far.failing_are, f_is, fails-next r (reports_after r.run reports) (reports_after run reports) cut);
  successful_are = omega (arith, so_far.successful_are, s_is, succeeds-next r (reports_after r.run reports) (reports_after run reports) cut);
}

pub totals-few : (reports : List Report) (run failing successful : ℕ) → AreTotalsSoFar reports run failing successful → length reports ≤ 100000 → failing + successful ≤ 100000
totals-few reports run failing successful so_far few = omega (arith, so_far.failing_are, so_far.successful_are, totals-most (runs_of reports), length-map reports run_of_report, few)

pub totals-end : (reports : List Report) (run failing successful : ℕ) → AreTotalsSoFar reports run failing successful → reports_after run reports ≡ [] → (failing ≡ failing_runs (runs_of reports)) × (successful ≡ successful_runs (runs_of reports))
totals-end reports run failing successful so_far none = (
  omega (arith, so_far.failing_are, ap (λ (rs : List Report). failing_runs (runs_of rs)) none),
  omega (arith, so_far.successful_are, ap (λ (rs : List Report). successful_runs (runs_of rs)) none),
)
