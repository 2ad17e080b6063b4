-- The entries of the map after the report of a run got another label.
use Rattle.std.proofs.Common.{◌≡◌, ◌+◌, ℕ, Bool, true, false, cond, ◌==◌, List, [], ◌∷◌, length, None, Some, ap, sym, subst, ◌∙◌, refl}
use Rattle.std.specs.Ordering.{nat_cmp, is_eq}
use Rattle.std.specs.BTreeMap.{is_at}
use Rattle.std.specs.Map.{set_value}
use Rattle.base_lists.proofs.Options.{none_some, some_is}
use Rattle.cbi_base.specs.declared.identity.ProgramId.{ProgramId}
use Rattle.report_file.specs.declared.label.Label.{Label}
use Rattle.report_file.specs.declared.report.Report.{Report}
use Rattle.collector.specs.Collected.{marks_of, report_relabelled, report_at}
use Rattle.collector.specs.Kept.{AreHeld, IsHeldReport}
use Rattle.collector.proofs.Keeping.{is_eq-nat_cmp, reports_in}

abbrev pub with_label : Label → Report → Report
with_label label r = record r { label = label }

set-tests : (b : Bool) (e : ℕ × Report) (w : Report) (more rest : List (ℕ × Report)) → reports_in (cond b ((e.0, w) ∷ more) (e ∷ rest)) ≡ cond b (w ∷ reports_in more) (e.1 ∷ reports_in rest)
set-tests true e w more rest = refl
set-tests false e w more rest = refl

label-tests : (b : Bool) (run : ℕ) (label : Label) (r x : Report) (more : List Report) (rest : List Report) → cond b (Some x) (report_at run more) ≡ Some r → (report_at run more ≡ Some r → rest ≡ report_relabelled run label more) → cond b (with_label label r ∷ more) (x ∷ rest) ≡ cond b (with_label label x ∷ more) (x ∷ report_relabelled run label more)
label-tests true run label r x more rest found others = ap (λ y. with_label label y ∷ more) (sym (some_is found))
label-tests false run label r x more rest found others = ap (λ ys. x ∷ ys) (others found)

pub values-set : (program : ProgramId) (branches : List Bool) (run : ℕ) (label : Label) (r : Report) (entries : List (ℕ × Report)) → AreHeld program branches entries → report_at run (reports_in entries) ≡ Some r → reports_in (set_value (is_at (nat_cmp run)) entries (with_label label r)) ≡ report_relabelled run label (reports_in entries)
values-set program branches run label r [] are found = refl
values-set program branches run label r (e ∷ more) are found =
    set-tests (is_eq (nat_cmp run e.0)) e (with_label label r) more (set_value (is_at (nat_cmp run)) more (with_label label r))
    ∙ ap (λ b. cond b (with_label label r ∷ reports_in more) (e.1 ∷ reports_in (set_value (is_at (nat_cmp run)) more (with_label label r)))) (is_eq-nat_cmp run e.0 ∙ ap (λ k. run == k) are.0.run_is)
    ∙ label-tests (run == e.1.run) run label r e.1 (reports_in more) (reports_in (set_value (is_at (nat_cmp run)) more (with_label label r))) found (values-set program branches run label r more are.1)

-- a report with another label can be spelled too
relabelled-held : (program : ProgramId) (branches : List Bool) (key : ℕ) (label : Label) (r : Report) → IsHeldReport program branches key r → IsHeldReport program branches key (with_label label r)
relabelled-held program branches key label r is = record {
  run_is = is.run_is;
  is_report = record {
    program = is.is_report.program;
    run = is.is_report.run;
    outcome = is.is_report.outcome;
    work = is.is_report.work;
    entries = is.is_report.entries;
    rising = is.is_report.rising;
  };
  program_is = is.program_is;
  sites = is.sites;
}

set-held-tests : (b c : Bool) (program : ProgramId) (branches : List Bool) (run : ℕ) (label : Label) (r : Report) (e : ℕ × Report) (more rest : List (ℕ × Report)) → b ≡ c → cond c (Some e.1) (report_at run (reports_in more)) ≡ Some r → IsHeldReport program branches e.0 e.1 → AreHeld program branches more → (report_at run (reports_in more) ≡ Some r → AreHeld program branches rest) → AreHeld program branches (cond b ((e.0, with_label label r) ∷ more) (e ∷ rest))
set-held-tests true true program branches run label r e more rest is found first are others =
    (subst (λ y. IsHeldReport program branches e.0 (with_label label y)) (some_is found) (relabelled-held program branches e.0 label e.1 first), are)
set-held-tests false false program branches run label r e more rest is found first are others = (first, others found)
set-held-tests true false program branches run label r e more rest is found first are others = absurd cc
set-held-tests false true program branches run label r e more rest is found first are others = absurd cc

pub held-set : (program : ProgramId) (branches : List Bool) (run : ℕ) (label : Label) (r : Report) (entries : List (ℕ × Report)) → AreHeld program branches entries → report_at run (reports_in entries) ≡ Some r → AreHeld program branches (set_value (is_at (nat_cmp run)) entries (with_label label r))
held-set program branches run label r [] are found = tt
held-set program branches run label r (e ∷ more) are found =
    set-held-tests (is_eq (nat_cmp run e.0)) (run == e.1.run) program branches run label r e more (set_value (is_at (nat_cmp run)) more (with_label label r)) (is_eq-nat_cmp run e.0 ∙ ap (λ k. run == k) are.0.run_is) found are.0 are.1 (held-set program branches run label r more are.1)

marks-tests : (b : Bool) (run : ℕ) (label : Label) (x : Report) (more : List Report) → marks_of (report_relabelled run label more) ≡ marks_of more → marks_of (cond b (with_label label x ∷ more) (x ∷ report_relabelled run label more)) ≡ marks_of (x ∷ more)
marks-tests true run label x more rest = refl
marks-tests false run label x more rest = ap (λ n. length x.entries + n) rest

-- another label leaves the entries
pub marks-relabelled : (run : ℕ) (label : Label) (reports : List Report) → marks_of (report_relabelled run label reports) ≡ marks_of reports
marks-relabelled run label [] = refl
marks-relabelled run label (x ∷ more) = marks-tests (run == x.run) run label x more (marks-relabelled run label more)

none-tests : (b : Bool) (run : ℕ) (label : Label) (x : Report) (more : List Report) → cond b (Some x) (report_at run more) ≡ None → (report_at run more ≡ None → report_relabelled run label more ≡ more) → cond b (with_label label x ∷ more) (x ∷ report_relabelled run label more) ≡ x ∷ more
none-tests true run label x more none rest = absurd (none_some (sym none))
none-tests false run label x more none rest = ap (λ ys. x ∷ ys) (rest none)

-- where the run isn't there nothing changes
pub relabelled-none : (run : ℕ) (label : Label) (reports : List Report) → report_at run reports ≡ None → report_relabelled run label reports ≡ reports
relabelled-none run label [] none = refl
relabelled-none run label (x ∷ more) none = none-tests (run == x.run) run label x more none (relabelled-none run label more)
