-- Lists of runs with one more run.
use Rattle.std.proofs.Common.{◌≡◌, ◌≤◌, ◌<◌, ◌+◌, ◌==◌, ℕ, suc, false, List, [], ◌∷◌, ◌++◌, length, None, ap, sym, refl, subst, ◌∙◌, arith, append-nil}
use Rattle.std.specs.Prelude.{nat_lt}
use Rattle.std.proofs.lemmas.Bool.Decides.{nat_tests}
use Rattle.std.proofs.lemmas.List.{map-append}
use Rattle.std.proofs.lemmas.List.Concat.{flat_map-append}
use Rattle.std.proofs.lemmas.List.Sums.{sum_by-cons, sum_by_push}
use Rattle.base_lists.proofs.Numbers.{more_apart}
use Rattle.cbi_base.specs.declared.identity.ProgramId.{ProgramId}
use Rattle.flow.specs.declared.program.ProgramParts.{ProgramParts}
use Rattle.flow.specs.Words.{counts_of, Ending}
use Rattle.report_file.specs.declared.report.Report.{Report}
use Rattle.report_file.specs.Report.{entries_of}
use Rattle.collector.specs.Collected.{marks_of, report_at, with_report}
use Rattle.planned_runs.specs.declared.input.RunInput.{RunInput}
use Rattle.planned_runs.specs.Labels.{counts_as_failed, counts_as_neither, counts_as_succeeded, judged_label, labels_of, with_counted}
use Rattle.planned_runs.specs.Runs.{ArePlannedRuns, IsPlannedRun, JudgedRun, all_seen, endings_of, marks_in, planned_report, planned_reports}
use Rattle.planned_runs.specs.Sums.{is_cut, is_ended, is_trapped, one_if, sums_of, sums_with_run}

pub planned_more : (p : ProgramParts) (gives : ℕ → RunInput → Type 0) (turns number : ℕ) (rs : List JudgedRun) (r : JudgedRun) → ArePlannedRuns p gives turns number rs
    → IsPlannedRun p gives turns (number + length rs) r → ArePlannedRuns p gives turns number (rs ++ r ∷ [])
planned_more p gives turns number [] r are is = (subst (λ n. IsPlannedRun p gives turns n r) (omega arith) is, tt)
planned_more p gives turns number (x ∷ rs) r are is =
    (are.0, planned_more p gives turns (suc number) rs r are.1 (subst (λ n. IsPlannedRun p gives turns n r) (omega arith) is))

pub endings_more : (rs : List JudgedRun) (r : JudgedRun) → endings_of (rs ++ r ∷ []) ≡ endings_of rs ++ r.ending ∷ []
endings_more rs r = map-append (λ (x : JudgedRun). x.ending) rs (r ∷ [])

pub seen_more : (es : List Ending) (e : Ending) → all_seen (es ++ e ∷ []) ≡ all_seen es ++ e.seen
seen_more es e = flat_map-append (λ (x : Ending). x.seen) es (e ∷ []) ∙ ap (λ more. all_seen es ++ more) (append-nil e.seen)

pub planned_seen_more : (rs : List JudgedRun) (r : JudgedRun) → all_seen (endings_of (rs ++ r ∷ [])) ≡ all_seen (endings_of rs) ++ r.ending.seen
planned_seen_more rs r = ap all_seen (endings_more rs r) ∙ seen_more (endings_of rs) r.ending

pub reports_more : (p : ProgramParts) (id : ProgramId) (number : ℕ) (rs : List JudgedRun) (r : JudgedRun)
    → planned_reports p id number (rs ++ r ∷ []) ≡ planned_reports p id number rs ++ planned_report p id (number + length rs) r ∷ []
reports_more p id number [] r = ap (λ n. planned_report p id n r ∷ []) (omega arith)
reports_more p id number (x ∷ rs) r =
    ap (λ rest. planned_report p id number x ∷ rest) (reports_more p id (suc number) rs r
    ∙ ap (λ n. planned_reports p id (suc number) rs ++ planned_report p id n r ∷ []) (omega arith))

not_below : (run number : ℕ) → number < run → nat_lt run number ≡ false
not_below run number less = grind (arith, nat_tests)

pub none_at : (p : ProgramParts) (id : ProgramId) (number run : ℕ) (rs : List JudgedRun) → number + length rs ≤ run → report_at run (planned_reports p id number rs) ≡ None
none_at p id number run [] fits = refl
none_at p id number run (x ∷ rs) fits = rw (more_apart run number (omega arith)) (none_at p id (suc number) run rs (omega arith))

pub with_last : (p : ProgramParts) (id : ProgramId) (number : ℕ) (r : Report) (rs : List JudgedRun) → number + length rs ≤ r.run
    → with_report r (planned_reports p id number rs) ≡ planned_reports p id number rs ++ r ∷ []
with_last p id number r [] fits = refl
with_last p id number r (x ∷ rs) fits =
    rw (not_below r.run number (omega arith), more_apart r.run number (omega arith))
    (ap (λ rest. planned_report p id number x ∷ rest) (with_last p id (suc number) r rs (omega arith)))

pub length_reports : (p : ProgramParts) (id : ProgramId) (number : ℕ) (rs : List JudgedRun) → length (planned_reports p id number rs) ≡ length rs
length_reports p id number [] = refl
length_reports p id number (r ∷ rs) = ap suc (length_reports p id (suc number) rs)

pub marks_same : (p : ProgramParts) (id : ProgramId) (number : ℕ) (rs : List JudgedRun) → marks_of (planned_reports p id number rs) ≡ marks_in p (endings_of rs)
marks_same p id number [] = refl
marks_same p id number (x ∷ rs) =
    ap (λ n. length (entries_of (counts_of p.sites x.ending.seen)) + n) (marks_same p id (suc number) rs)
    ∙ sym (sum_by-cons (λ (e : Ending). length (entries_of (counts_of p.sites e.seen))) x.ending (endings_of rs))

pub marks_more : (p : ProgramParts) (rs : List JudgedRun) (r : JudgedRun)
    → marks_in p (endings_of (rs ++ r ∷ [])) ≡ marks_in p (endings_of rs) + length (entries_of (counts_of p.sites r.ending.seen))
marks_more p rs r = ap (marks_in p) (endings_more rs r) ∙ sum_by_push (λ (x : Ending). length (entries_of (counts_of p.sites x.seen))) (endings_of rs) r.ending

sums_push : (es : List Ending) (e : Ending) → sums_of (es ++ e ∷ []) ≡ sums_with_run e.outcome e.work (sums_of es)
sums_push es e =
    rw (
      sum_by_push (λ (x : Ending). one_if (is_trapped x.outcome)) es e,
      sum_by_push (λ (x : Ending). one_if (is_ended x.outcome)) es e,
      sum_by_push (λ (x : Ending). one_if (is_cut x.outcome)) es e,
      sum_by_push (λ (x : Ending). x.work.fast) es e,
      sum_by_push (λ (x : Ending). x.work.slow) es e,
      sum_by_push (λ (x : Ending). x.work.tests) es e,
    ) refl

pub sums_more : (rs : List JudgedRun) (r : JudgedRun) → sums_of (endings_of (rs ++ r ∷ [])) ≡ sums_with_run r.ending.outcome r.ending.work (sums_of (endings_of rs))
sums_more rs r = ap sums_of (endings_more rs r) ∙ sums_push (endings_of rs) r.ending

pub labels_more : (rs : List JudgedRun) (r : JudgedRun) → labels_of (rs ++ r ∷ []) ≡ with_counted (judged_label r) (labels_of rs)
labels_more rs r =
    rw (
      sum_by_push (λ (x : JudgedRun). one_if (counts_as_failed (judged_label x))) rs r,
      sum_by_push (λ (x : JudgedRun). one_if (counts_as_succeeded (judged_label x))) rs r,
      sum_by_push (λ (x : JudgedRun). one_if (counts_as_neither (judged_label x))) rs r,
    ) refl
