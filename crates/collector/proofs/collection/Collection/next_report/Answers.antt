use Rattle.std.proofs.Common.{◌≡◌, ℕ, Bool, List, None, Some, ap, sym, subst, ◌∙◌, rules}
use Rattle.std.specs.Prelude.{nat_lt}
use Rattle.cbi_base.specs.declared.identity.ProgramId.{ProgramId}
use Rattle.report_file.specs.declared.report.Report.{Report}
use Rattle.collector.specs.Collected.{next_after}
use Rattle.collector.specs.Kept.{AreHeld}
use Rattle.collector.specs.Sites.{first_bad}
use Rattle.collector.proofs.Keeping.{IsFound, held-find, next-none, next-some, reports_in}
use Rattle.collector.proofs.collection.Collection.next_report.Goals as goal

pub returns-in-None-clause-value : goal.returns-in-None-clause-value
returns-in-None-clause-value c =
    let old = c.self.inside in
    let reports : reports_in old.reports.entries ≡ c.args.self.now.reports = search rules in
    next-none old.program old.branches c.args.after old.reports.entries c.range.result c.self.invariant.are_held (c.range.ensures.between tt) c.in-None.ensures.steps.0 ∙ ap (next_after c.args.after) reports

pub returns-in-Some-clause-value : goal.returns-in-Some-clause-value
returns-in-Some-clause-value c =
    let old = c.self.inside in
    let reports : reports_in old.reports.entries ≡ c.args.self.now.reports = search rules in
    next-some old.program old.branches c.args.after _ c.in-Some.report.now old.reports.entries c.range.result _ c.self.invariant.are_held (c.range.ensures.between tt) c.in-Some.ensures.steps ∙ ap (next_after c.args.after) reports

-- the report that was found is one of those that are held
found : (program : ProgramId) (branches : List Bool) (run : ℕ) (entries : List (ℕ × Report)) (r : Report) → AreHeld program branches entries → Some r ≡ next_after run (reports_in entries) → IsFound program branches r
found program branches run entries r are is = held-find program branches (λ (x : Report). nat_lt run x.run) entries r are (sym is)

pub returns-in-Some-clause-is_report : goal.returns-in-Some-clause-is_report
returns-in-Some-clause-is_report c =
    let old = c.self.inside in
    let first = next-some old.program old.branches c.args.after _ c.in-Some.report.now old.reports.entries c.range.result _ c.self.invariant.are_held (c.range.ensures.between tt) c.in-Some.ensures.steps in
    (found old.program old.branches c.args.after old.reports.entries c.in-Some.report.now c.self.invariant.are_held first).is_report

pub returns-in-Some-clause-ours : goal.returns-in-Some-clause-ours
returns-in-Some-clause-ours c =
    let old = c.self.inside in
    let program : old.program ≡ c.args.self.now.program = search rules in
    let branches : old.branches ≡ c.args.self.now.branches = search rules in
    let first = next-some old.program old.branches c.args.after _ c.in-Some.report.now old.reports.entries c.range.result _ c.self.invariant.are_held (c.range.ensures.between tt) c.in-Some.ensures.steps in
    let is = found old.program old.branches c.args.after old.reports.entries c.in-Some.report.now c.self.invariant.are_held first in
    record { program = is.program_is ∙ program; sites = subst (λ bs. first_bad bs c.in-Some.report.now.entries ≡ None) branches is.sites }
