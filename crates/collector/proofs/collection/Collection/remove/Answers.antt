use Rattle.std.proofs.Common.{◌≡◌, ℕ, List, Bool, Some, length, ap, sym, subst, ◌∙◌, rules, arith}
use Rattle.std.specs.Prelude.{is_some}
use Rattle.std.specs.Ordering.{nat_cmp}
use Rattle.std.specs.BTreeMap.{is_at}
use Rattle.std.specs.Map.{remove_entry}
use Rattle.report_file.specs.declared.report.Report.{Report}
use Rattle.cbi_base.specs.declared.identity.ProgramId.{ProgramId}
use Rattle.collector.specs.declared.collection.Held.{Held}
use Rattle.collector.specs.Collected.{marks_of, report_at, without_report}
use Rattle.collector.specs.Kept.{AreHeld}
use Rattle.collector.proofs.Keeping.{held-remove, length-remove, lookup-report, marks-without, reports_in, values-remove}
use Rattle.collector.proofs.collection.Collection.remove.Goals as goal

-- what the collection shows without the report, by the entries that are left
shown : (program p : ProgramId) (branches bs : List Bool) (run : ℕ) (entries left : List (ℕ × Report)) (reports : List Report) → program ≡ p → branches ≡ bs → reports_in entries ≡ reports → AreHeld program branches entries → left ≡ remove_entry (is_at (nat_cmp run)) entries → ◌≡◌ {A = Held} (record { program = program; branches = branches; reports = reports_in left }) (record { program = p; branches = bs; reports = without_report run reports })
shown program p branches bs run entries left reports is_p is_bs is are is_left =
    ap (λ rs. let h : Held = record { program = program; branches = branches; reports = rs } in h) (ap reports_in is_left ∙ values-remove program branches run entries are ∙ ap (without_report run) is)
    ∙ ap (λ x. let h : Held = record { program = x; branches = branches; reports = without_report run reports } in h) is_p
    ∙ ap (λ x. let h : Held = record { program = p; branches = x; reports = without_report run reports } in h) is_bs

pub returns-in_default-clause-found : goal.returns-in_default-clause-found
returns-in_default-clause-found c =
    let reports : reports_in c.self.inside.reports.entries ≡ c.args.self.now.reports = search rules in
    ap is_some (c.in_default.ensures.value ∙ lookup-report _ _ c.args.run _ c.self.invariant.are_held ∙ ap (report_at c.args.run) reports)

pub returns-in_default-clause-after : goal.returns-in_default-clause-after
returns-in_default-clause-after c =
    let old = c.self.inside in
    shown old.program c.args.self.now.program old.branches c.args.self.now.branches c.args.run old.reports.entries c.remove.new.self.entries c.args.self.now.reports (search rules) (search rules) (search rules) c.self.invariant.are_held c.in_default.ensures.entries

pub returns-clause-found : goal.returns-clause-found
returns-clause-found c =
    let reports : reports_in c.self.inside.reports.entries ≡ c.args.self.now.reports = search rules in
    ap is_some (c.in-Some.ensures.value ∙ lookup-report _ _ c.args.run _ c.self.invariant.are_held ∙ ap (report_at c.args.run) reports)

pub returns-clause-after : goal.returns-clause-after
returns-clause-after c =
    let old = c.self.inside in
    shown old.program c.args.self.now.program old.branches c.args.self.now.branches c.args.run old.reports.entries c.remove.new.self.entries c.args.self.now.reports (search rules) (search rules) (search rules) c.self.invariant.are_held c.in-Some.ensures.entries

pub overflow_sub-self : goal.overflow_sub-self
overflow_sub-self c =
    let entries = c.self.inside.reports.entries in
    let found : report_at c.args.run (reports_in entries) ≡ Some c.in-Some.report = sym (c.in-Some.ensures.value ∙ lookup-report _ _ c.args.run _ c.self.invariant.are_held) in
    omega (arith, c.len.ensures, c.self.invariant.marks_are, marks-without c.args.run c.in-Some.report (reports_in entries) found)

pub invariant_of-self-2 : goal.invariant_of-self-2
invariant_of-self-2 c =
    let old = c.self.inside in
    let entries = old.reports.entries in
    let kept = c.self.invariant in
    let left : c.remove.new.self.entries ≡ remove_entry (is_at (nat_cmp c.args.run)) entries = c.in-Some.ensures.entries in
    let found : report_at c.args.run (reports_in entries) ≡ Some c.in-Some.report = sym (c.in-Some.ensures.value ∙ lookup-report _ _ c.args.run _ kept.are_held) in
    let values : marks_of (reports_in c.remove.new.self.entries) ≡ marks_of (without_report c.args.run (reports_in entries)) = ap (λ es. marks_of (reports_in es)) left ∙ ap marks_of (values-remove old.program old.branches c.args.run entries kept.are_held) in
    let marks = marks-without c.args.run c.in-Some.report (reports_in entries) found in record {
      are_held = subst (AreHeld old.program old.branches) (sym left) (held-remove old.program old.branches c.args.run entries kept.are_held);
      few = omega (arith, ap length left, length-remove c.args.run entries, kept.few);
      marks_are = omega (arith, kept.marks_are, c.len.ensures, marks, values);
      few_marks = omega (arith, kept.few_marks);
    }
