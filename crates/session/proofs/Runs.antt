-- The report of a run among the others.
use Rattle.std.proofs.Common.{◌≡◌, ◌≢◌, ◌+◌, ℕ, Bool, true, false, cond, ◌==◌, ⊎_elim, List, [], ◌∷◌, ◌++◌, None, Some, ap, sym, subst, ◌∙◌, refl, arith}
use Rattle.std.specs.Prelude.{nat_lt}
use Rattle.base_lists.proofs.Options.{answers_none, none_some, some_is}
use Rattle.base_lists.proofs.Numbers.{number_itself, other_number}
use Rattle.report_file.specs.declared.label.Label.{Label}
use Rattle.report_file.specs.declared.report.Report.{Report}
use Rattle.report_file.specs.Report.{IsReport}
use Rattle.collector.specs.Collected.{next_after, report_relabelled, report_at, with_report, without_report}
use Rattle.collector.specs.Collecting.{IsCollection}
use Rattle.collector.specs.Merging.{AreReports}
use Rattle.collector.specs.Order.{IsOneOfReports}
use Rattle.collector.specs.declared.collection.Held.{Held}
use Rattle.collector.proofs.Maps.{labelled as with_label, next-least, next-no}
use Rattle.collector.proofs.Ordering.{AreRising, above-member, from-rising, with_by}
use Rattle.collector.proofs.Taking.{found-member, found-run}

-- who is one of the reports is that of its run
member-at : (reports : List Report) (r : Report) → AreRising reports → IsOneOfReports r reports → report_at r.run reports ≡ Some r
member-at [] r rising is = absurd is
member-at (x ∷ more) r rising is =
    ⊎_elim (λ (same : r ≡ x). let here : (r.run == x.run) ≡ true = ap (λ (y : Report). r.run == y.run) (sym same) ∙ number_itself r.run in ap (λ b. cond b (Some x) (report_at r.run more)) here ∙ ap Some (sym same))
    (λ (behind : IsOneOfReports r more).
    let less = above-member x.run more r rising.0 behind in
    let other : (r.run == x.run) ≡ false = other_number r.run x.run (λ e. omega arith) in
    ap (λ b. cond b (Some x) (report_at r.run more)) other ∙ member-at more r rising.1 behind) is

report-of : (reports : List Report) (r : Report) → AreReports reports → IsOneOfReports r reports → IsReport r
report-of [] r are is = absurd is
report-of (x ∷ more) r are is = ⊎_elim (λ (same : r ≡ x). subst IsReport (sym same) are.0) (λ (behind : IsOneOfReports r more). report-of more r are.1 behind) is

-- no run has number 0
pub none-at-zero : (c : Held) (run : ℕ) → IsCollection c → run ≡ 0 → None ≡ report_at run c.reports
none-at-zero c run is zero =
    answers_none (report_at run c.reports) (λ r found.
    let fits = report-of c.reports r is.reports (found-member run c.reports r found) in
    let least = fits.run.least in
    let same = found-run run c.reports r found in omega arith)

-- the report behind the number before the run's is the run's, or the run isn't held
pub at-next : (c : Held) (before run : ℕ) (next : Report) → IsCollection c → before + 1 ≡ run → next_after before c.reports ≡ Some next → next.run ≡ run → Some next ≡ report_at run c.reports
at-next c before run next is one found same =
    let rising = from-rising 0 c.reports is.rising in
    sym (ap (λ n. report_at n c.reports) (sym same) ∙ member-at c.reports next rising (next-least before c.reports next rising found).0)

pub not-next : (c : Held) (before run : ℕ) (next : Report) → IsCollection c → before + 1 ≡ run → next_after before c.reports ≡ Some next → next.run ≢ run → None ≡ report_at run c.reports
not-next c before run next is one found other =
    let least = next-least before c.reports next (from-rising 0 c.reports is.rising) found in
    answers_none (report_at run c.reports) (λ r held.
    let same = found-run run c.reports r held in
    let up = least.2 r (found-member run c.reports r held) (omega arith) in
    let low = least.1 in
    other (omega arith))

pub no-next : (c : Held) (before run : ℕ) → before + 1 ≡ run → next_after before c.reports ≡ None → None ≡ report_at run c.reports
no-next c before run one none =
    answers_none (report_at run c.reports) (λ r held.
    let same = found-run run c.reports r held in
    let most = next-no before c.reports r none (found-member run c.reports r held) in omega arith)

-- the reports before and behind that of a run
pub record IsSplit (run : ℕ) (reports : List Report) (r : Report) : Type 0 where
  pub before : List Report
  pub behind : List Report
  pub all : reports ≡ before ++ r ∷ behind
  pub rest : without_report run reports ≡ before ++ behind

split-by : (b : Bool) (run : ℕ) (x r : Report) (more : List Report) → (run == x.run) ≡ b → cond b (Some x) (report_at run more) ≡ Some r → (report_at run more ≡ Some r → IsSplit run more r) → IsSplit run (x ∷ more) r
split-by true run x r more test found on = record {
  before = [];
  behind = more;
  all = ap (λ y. y ∷ more) (some_is found);
  rest = ap (λ b. cond b more (x ∷ without_report run more)) test;
}
split-by false run x r more test found on =
    let s = on found in record {
      before = x ∷ s.before;
      behind = s.behind;
      all = ap (λ ys. x ∷ ys) s.all;
      rest = ap (λ b. cond b more (x ∷ without_report run more)) test ∙ ap (λ ys. x ∷ ys) s.rest;
    }

pub split : (run : ℕ) (reports : List Report) (r : Report) → report_at run reports ≡ Some r → IsSplit run reports r
split run [] r found = absurd (none_some found)
split run (x ∷ more) r found = split-by (run == x.run) run x r more refl found (split run more r)

-- the others stay when a report is put in, or gets another label
without-with-by : (p q : Bool) (r x : Report) (more : List Report) → (r.run == x.run) ≡ q → cond q (Some x) (report_at r.run more) ≡ None → (report_at r.run more ≡ None → without_report r.run (with_report r more) ≡ more) → without_report r.run (with_by p q r x more (with_report r more)) ≡ x ∷ more
without-with-by true q r x more test absent on = ap (λ b. cond b (x ∷ more) (r ∷ without_report r.run (x ∷ more))) (number_itself r.run)
without-with-by false true r x more test absent on = absurd (none_some (sym absent))
without-with-by false false r x more test absent on = ap (λ b. cond b (with_report r more) (x ∷ without_report r.run (with_report r more))) test ∙ ap (λ ys. x ∷ ys) (on absent)

pub without-with : (r : Report) (reports : List Report) → report_at r.run reports ≡ None → without_report r.run (with_report r reports) ≡ reports
without-with r [] absent = ap (λ b. cond b [] (r ∷ [])) (number_itself r.run)
without-with r (x ∷ more) absent = without-with-by (nat_lt r.run x.run) (r.run == x.run) r x more refl absent (without-with r more)

without-relabelled-by : (b : Bool) (run : ℕ) (label : Label) (x : Report) (more : List Report) → (run == x.run) ≡ b → without_report run (report_relabelled run label more) ≡ without_report run more → without_report run (cond b (with_label label x ∷ more) (x ∷ report_relabelled run label more)) ≡ cond b more (x ∷ without_report run more)
without-relabelled-by true run label x more test rest = ap (λ b. cond b more (with_label label x ∷ without_report run more)) test
without-relabelled-by false run label x more test rest =
    ap (λ b. cond b (report_relabelled run label more) (x ∷ without_report run (report_relabelled run label more))) test ∙ ap (λ ys. x ∷ ys) rest

pub without-relabelled : (run : ℕ) (label : Label) (reports : List Report) → without_report run (report_relabelled run label reports) ≡ without_report run reports
without-relabelled run label [] = refl
without-relabelled run label (x ∷ more) = without-relabelled-by (run == x.run) run label x more refl (without-relabelled run label more)

-- where the run isn't held, nothing is left out
without-absent-by : (b : Bool) (run : ℕ) (x : Report) (more : List Report) → cond b (Some x) (report_at run more) ≡ None → (report_at run more ≡ None → without_report run more ≡ more) → cond b more (x ∷ without_report run more) ≡ x ∷ more
without-absent-by true run x more absent on = absurd (none_some (sym absent))
without-absent-by false run x more absent on = ap (λ ys. x ∷ ys) (on absent)

pub without-absent : (run : ℕ) (reports : List Report) → report_at run reports ≡ None → without_report run reports ≡ reports
without-absent run [] absent = refl
without-absent run (x ∷ more) absent = without-absent-by (run == x.run) run x more absent (without-absent run more)
