-- The reports of a collection up to a run, and those of later runs.
use Rattle.std.proofs.Common.{◌≡◌, ℕ, ◌+◌, ◌<◌, ◌≤◌, Bool, cond, List, [], ◌∷◌, ◌++◌, Option, None, Some, refl, sym, ap, subst, ◌∙◌, append_assoc, arith}
use Rattle.std.specs.Prelude.{All}
use Rattle.std.proofs.lemmas.Bool.{le-ltb, lt-ltb}
use Rattle.std.proofs.lemmas.List.{length-map, map-append}
use Rattle.std.proofs.lemmas.List.Elements.{All-head, All-nil, All-push, All-tail, All-weaker}
use Rattle.std.proofs.lemmas.List.Sums.{count_by-le-length, sum_by-append, sum_by-cons}
use Rattle.std.proofs.lemmas.Option.{none-some, same_Some}
use Rattle.elimination_tallies.proofs.RunLemmas.{from-one}
use Rattle.collector.specs.declared.collection.Held.{Held}
use Rattle.collector.specs.Collected.{next_after}
use Rattle.collector.specs.Collecting.{IsCollection}
use Rattle.report_file.specs.declared.report.Report.{Report}
use Rattle.elimination_tallies.specs.declared.labelled.LabelledRun.{LabelledRun}
use Rattle.elimination_tallies.specs.Recount.{run_of_report, runs_of}
use Rattle.compound_counts.specs.Runs.{IsCounted, IsCut, is_counted_label, run_count}

-- nothing up to the run comes after it
next-past : (last : ℕ) (before after : List Report) → All (λ (r : Report). r.run ≤ last) before → next_after last (before ++ after) ≡ next_after last after
next-past last [] after passed = refl
next-past last (x ∷ more) after passed =
    ap (λ b. cond b (Some x) (next_after last (more ++ after))) (le-ltb last x.run (All-head (λ (r : Report). r.run ≤ last) x more passed))
    ∙ next-past last more after (All-tail (λ (r : Report). r.run ≤ last) x more passed)

next-first : (last : ℕ) (x : Report) (more : List Report) → last + 1 ≤ x.run → next_after last (x ∷ more) ≡ Some x
next-first last x more later = ap (λ b. cond b (Some x) (next_after last more)) (lt-ltb last x.run (omega arith))

-- the cut one report on
pub record IsNextCut (reports before after : List Report) (r : Report) : Type 0 where
  pub more : List Report
  pub is : after ≡ r ∷ more
  pub cut : IsCut reports r.run (before ++ r ∷ []) more

pub cut-next : (reports : List Report) (last : ℕ) (before after : List Report) (r : Report) → IsCut reports last before after → next_after last reports ≡ Some r → IsNextCut reports before after r
cut-next reports last before [] r cut is = absurd (none-some r (sym (ap (next_after last) cut.whole ∙ next-past last before [] cut.passed) ∙ is))
cut-next reports last before (x ∷ more) r cut is =
    let first : ◌≡◌ {A = Option Report} (Some x) (Some r) = sym (ap (next_after last) cut.whole ∙ next-past last before (x ∷ more) cut.passed ∙ next-first last x more cut.rising.0) ∙ is in
    let earlier : All (λ (y : Report). y.run ≤ x.run) before = All-weaker (λ (y : Report). y.run ≤ last) (λ (y : Report). y.run ≤ x.run) (λ y h. omega (arith, h, cut.rising.0)) before cut.passed in
    subst (λ (y : Report). IsNextCut reports before (x ∷ more) y) (same_Some x r first) (record {
      more = more;
      is = refl;
      cut = record {
        whole = cut.whole ∙ sym (append_assoc before (x ∷ []) more);
        passed = All-push (λ (y : Report). y.run ≤ x.run) before x earlier (omega arith);
        rising = cut.rising.1;
      };
    })

pub cut-end : (reports : List Report) (last : ℕ) (before after : List Report) → IsCut reports last before after → next_after last reports ≡ None → after ≡ []
cut-end reports last before [] cut is = refl
cut-end reports last before (x ∷ more) cut is =
    absurd (none-some x (sym is ∙ ap (next_after last) cut.whole ∙ next-past last before (x ∷ more) cut.passed ∙ next-first last x more cut.rising.0))

-- a later run
pub cut-later : (reports : List Report) (last : ℕ) (before after : List Report) (r : Report) → IsCut reports last before after → next_after last reports ≡ Some r → last < r.run
cut-later reports last before [] r cut is = absurd (none-some r (sym (ap (next_after last) cut.whole ∙ next-past last before [] cut.passed) ∙ is))
cut-later reports last before (x ∷ more) r cut is =
    let first : ◌≡◌ {A = Option Report} (Some x) (Some r) = sym (ap (next_after last) cut.whole ∙ next-past last before (x ∷ more) cut.passed ∙ next-first last x more cut.rising.0) ∙ is in
    subst (λ (y : Report). last < y.run) (same_Some x r first) (omega (arith, cut.rising.0))

pub cut-start : (c : Held) → IsCollection c → IsCut c.reports 0 [] c.reports
cut-start c is = record { whole = refl; passed = All-nil (λ (r : Report). r.run ≤ 0); rising = from-one c.reports is.reports is.rising }

-- ---- the runs counted

runs-on : (failing : Bool) (before after : List Report) → run_count failing (runs_of (before ++ after)) ≡ run_count failing (runs_of before) + run_count failing (runs_of after)
runs-on failing before after =
    ap (run_count failing) (map-append run_of_report before after) ∙ sum_by-append (λ (r : LabelledRun). cond (is_counted_label failing r.label) 1 0) (runs_of before) (runs_of after)

pub run-one : (failing : Bool) (r : Report) (more : List Report) → run_count failing (runs_of (r ∷ more)) ≡ cond (is_counted_label failing r.label) 1 0 + run_count failing (runs_of more)
run-one failing r more = sum_by-cons (λ (x : LabelledRun). cond (is_counted_label failing x.label) 1 0) (run_of_report r) (runs_of more)

pub run-push : (failing : Bool) (before : List Report) (r : Report) → run_count failing (runs_of (before ++ r ∷ [])) ≡ run_count failing (runs_of before) + cond (is_counted_label failing r.label) 1 0
run-push failing before r = runs-on failing before (r ∷ []) ∙ ap (λ n. run_count failing (runs_of before) + n) (run-one failing r [] ∙ omega arith)

-- one more is at most all
pub run-room : (failing : Bool) (reports : List Report) (last : ℕ) (before after : List Report) (r : Report) → IsCut reports last before after → IsNextCut reports before after r
    → run_count failing (runs_of before) + cond (is_counted_label failing r.label) 1 0 ≤ run_count failing (runs_of reports)
run-room failing reports last before after r cut next =
    let whole : reports ≡ before ++ r ∷ next.more = cut.whole ∙ ap (λ xs. before ++ xs) next.is in
    omega (arith, ap (λ (xs : List Report). run_count failing (runs_of xs)) whole, runs-on failing before (r ∷ next.more), run-one failing r next.more)

pub counted-start : (failing : Bool) (c : Held) → IsCollection c → IsCounted failing c.reports 0 0
counted-start failing c is = record { before = []; after = c.reports; cut = cut-start c is; counted = refl }

pub counted-step : (failing : Bool) (reports : List Report) (last count : ℕ) (r : Report) → IsCounted failing reports last count → next_after last reports ≡ Some r
    → IsCounted failing reports r.run (count + cond (is_counted_label failing r.label) 1 0) × (count + cond (is_counted_label failing r.label) 1 0 ≤ run_count failing (runs_of reports))
counted-step failing reports last count r so_far is =
    let next = cut-next reports last so_far.before so_far.after r so_far.cut is in (
      record {
        before = so_far.before ++ r ∷ [];
        after = next.more;
        cut = next.cut;
        counted = ap (λ n. n + cond (is_counted_label failing r.label) 1 0) so_far.counted ∙ sym (run-push failing so_far.before r);
      },
      omega (arith, so_far.counted, run-room failing reports last so_far.before so_far.after r so_far.cut next),
    )

pub counted-end : (failing : Bool) (reports : List Report) (last count : ℕ) → IsCounted failing reports last count → next_after last reports ≡ None → count ≡ run_count failing (runs_of reports)
counted-end failing reports last count so_far is =
    let none = cut-end reports last so_far.before so_far.after so_far.cut is in
    let all : run_count failing (runs_of reports) ≡ run_count failing (runs_of so_far.before) + run_count failing (runs_of so_far.after) =
    ap (λ (xs : List Report). run_count failing (runs_of xs)) so_far.cut.whole ∙ runs-on failing so_far.before so_far.after in
    let rest : run_count failing (runs_of so_far.after) ≡ 0 = ap (λ (xs : List Report). run_count failing (runs_of xs)) none in
    omega (arith, so_far.counted, all, rest)

pub counted-few : (failing : Bool) (c : Held) → IsCollection c → run_count failing (runs_of c.reports) ≤ 100000
counted-few failing c is = omega (arith, count_by-le-length (λ (r : LabelledRun). is_counted_label failing r.label) (runs_of c.reports), length-map c.reports run_of_report, is.few)

-- ---- the entries of a report
