use Rattle.std.proofs.Common.{◌≡◌, List, Bool, None, Some, ap, sym, subst, ◌∙◌, rules, arith}
use Rattle.std.specs.Prelude.{is_some}
use Rattle.cbi_base.specs.declared.identity.ProgramId.{ProgramId}
use Rattle.report_file.specs.declared.report.Report.{Report}
use Rattle.collector.specs.declared.collection.Held.{Held}
use Rattle.collector.specs.Collected.{marks_of, report_relabelled, report_at}
use Rattle.collector.specs.Kept.{AreHeld}
use Rattle.collector.proofs.Keeping.{lookup-report, reports_in}
use Rattle.collector.proofs.Relabelling.{held-set, marks-relabelled, relabelled-none, values-set, with_label}
use Rattle.collector.proofs.collection.Collection.relabel.Goals as goal

-- what the collection shows with these reports
shown : (program p : ProgramId) (branches bs : List Bool) (reports rs : List Report) → program ≡ p → branches ≡ bs → reports ≡ rs → ◌≡◌ {A = Held} (record { program = program; branches = branches; reports = reports }) (record { program = p; branches = bs; reports = rs })
shown program p branches bs reports rs is_p is_bs is =
    ap (λ x. let h : Held = record { program = program; branches = branches; reports = x } in h) is
    ∙ ap (λ x. let h : Held = record { program = x; branches = branches; reports = rs } in h) is_p
    ∙ ap (λ x. let h : Held = record { program = p; branches = x; reports = rs } in h) is_bs

pub returns-in_default-clause-found : goal.returns-in_default-clause-found
returns-in_default-clause-found c =
    let reports : reports_in c.self.inside.reports.entries ≡ c.args.self.now.reports = search rules in
    ap is_some (c.in_default.ensures.value ∙ lookup-report _ _ c.args.run _ c.self.invariant.are_held ∙ ap (report_at c.args.run) reports)

pub returns-in_default-clause-after : goal.returns-in_default-clause-after
returns-in_default-clause-after c =
    let old = c.self.inside in
    let reports : reports_in old.reports.entries ≡ c.args.self.now.reports = search rules in
    let none : report_at c.args.run c.args.self.now.reports ≡ None = sym (c.in_default.ensures.value ∙ lookup-report _ _ c.args.run _ c.self.invariant.are_held ∙ ap (report_at c.args.run) reports) in
    shown old.program c.args.self.now.program old.branches c.args.self.now.branches _ (report_relabelled c.args.run c.args.label c.args.self.now.reports) (search rules) (search rules)
    (ap (λ m. reports_in m.entries) c.get_mut.follows.holds-at-none ∙ reports ∙ sym (relabelled-none c.args.run c.args.label c.args.self.now.reports none))

pub returns-clause-found : goal.returns-clause-found
returns-clause-found c =
    let reports : reports_in c.self.inside.reports.entries ≡ c.args.self.now.reports = search rules in
    ap is_some (c.in-Some.ensures.value ∙ lookup-report _ _ c.args.run _ c.self.invariant.are_held ∙ ap (report_at c.args.run) reports)

pub returns-clause-after : goal.returns-clause-after
returns-clause-after c =
    let old = c.self.inside in
    let reports : reports_in old.reports.entries ≡ c.args.self.now.reports = search rules in
    let found : report_at c.args.run (reports_in old.reports.entries) ≡ Some c.in-Some.report.now = sym (c.in-Some.ensures.value ∙ lookup-report _ _ c.args.run _ c.self.invariant.are_held) in
    let written = (c.get_mut.follows.holds (with_label c.args.label c.in-Some.report.now)).0 in
    shown old.program c.args.self.now.program old.branches c.args.self.now.branches _ (report_relabelled c.args.run c.args.label c.args.self.now.reports) (search rules) (search rules)
    (ap reports_in written ∙ values-set old.program old.branches c.args.run c.args.label c.in-Some.report.now old.reports.entries c.self.invariant.are_held found ∙ ap (report_relabelled c.args.run c.args.label) reports)

pub invariant_of-self-2 : goal.invariant_of-self-2
invariant_of-self-2 c =
    let old = c.self.inside in
    let entries = old.reports.entries in
    let kept = c.self.invariant in
    let found : report_at c.args.run (reports_in entries) ≡ Some c.in-Some.report.now = sym (c.in-Some.ensures.value ∙ lookup-report _ _ c.args.run _ kept.are_held) in
    let holds = c.get_mut.follows.holds (with_label c.args.label c.in-Some.report.now) in
    let values = ap (λ es. marks_of (reports_in es)) holds.0 ∙ ap marks_of (values-set old.program old.branches c.args.run c.args.label c.in-Some.report.now entries kept.are_held found) ∙ marks-relabelled c.args.run c.args.label (reports_in entries) in record {
      are_held = subst (AreHeld old.program old.branches) (sym holds.0) (held-set old.program old.branches c.args.run c.args.label c.in-Some.report.now entries kept.are_held found);
      few = omega (arith, holds.2, kept.few);
      marks_are = kept.marks_are ∙ sym values;
      few_marks = kept.few_marks;
    }
