use Rattle.std.proofs.Common.{◌≡◌, ◌≤◌, ℕ, length, subst, arith}
use Rattle.std.proofs.lemmas.List.{length-map}
use Rattle.report_file.specs.declared.report.Report.{Report}
use Rattle.collector.specs.declared.collection.Held.{Held}
use Rattle.collector.specs.Collected.{mark_limit}
use Rattle.collector.specs.Collecting.{IsCollection}
use Rattle.collector.proofs.Keeping.{reports_in}
use Rattle.collector.proofs.Keeps.{held-ours, held-reports, keys-rising}
use Rattle.collector.proofs.Ordering.{rising-from}
use Rattle.collector.proofs.collection.Collection.keeps.Goals as goal

pub returns : goal.returns
returns c =
    let inside = c.self.inside in
    let entries = inside.reports.entries in
    let kept = c.self.invariant in
    let seen : Held = record { program = inside.program; branches = inside.branches; reports = reports_in entries } in
    let number : length (reports_in entries) ≡ length entries = length-map entries (λ (e : ℕ × Report). e.1) in
    let is : IsCollection seen = record {
      program = c.is_identity.ensures;
      rising = rising-from (reports_in entries) (keys-rising inside.program inside.branches entries kept.are_held c.len-count.ensures.ordered);
      reports = held-reports inside.program inside.branches entries kept.are_held;
      ours = held-ours seen entries kept.are_held;
      few = omega (arith, kept.few);
      few_marks = subst (λ n. n ≤ mark_limit) kept.marks_are kept.few_marks;
    } in
    subst IsCollection c.self.view_is is
