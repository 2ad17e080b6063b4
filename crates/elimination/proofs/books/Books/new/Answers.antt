use Rattle.std.proofs.Common.{◌≡◌, ℕ, ◌+◌, ◌∙◌, ◌++◌, [], ◌∷◌, Bool, List, ap, arith, length, subst, sym}
use Rattle.std.specs.Prelude.{All}
use Rattle.std.proofs.lemmas.List.{length-map}
use Rattle.report_file.specs.declared.report.Report.{Report}
use Rattle.elimination.specs.declared.books.Slot.{Slot}
use Rattle.elimination_tallies.specs.declared.labelled.LabelledRun.{LabelledRun}
use Rattle.elimination_tallies.specs.Recount.{failing_runs, run_of_report, runs_of}
use Rattle.elimination_tallies.specs.Runs.{AreEntriesOf, reports_after}
use Rattle.elimination.specs.Slots.{left_of}
use Rattle.elimination_tallies.specs.Tallies.{AreRecounts}
use Rattle.elimination.proofs.Gathering.{Gathered, gathered-next-fails, gathered-runs, gathered-start, gathered-step, new_slot}
use Rattle.elimination_tallies.proofs.RunLemmas.{all-after, collection-rises}
use Rattle.elimination.proofs.books.Books.new.Goals as goal

pub loop-report-init : goal.loop-report-init
loop-report-init c = (
  gathered-start c.args.collection.now.branches c.new-slots.result.items (runs_of (reports_after 0 c.args.collection.now.reports)) (runs_of c.args.collection.now.reports) c.new-slots.ensures.items (ap runs_of (all-after 0 1 c.args.collection.now.reports (omega arith) (collection-rises c.args.collection.now c.keeps.ensures))),
  omega arith,
)

pub loop-report-smaller : goal.loop-report-smaller
loop-report-smaller c = omega (arith, c.in-Some.ensures.later, c.loop-report.invariant.1)

pub overflow_add-failing : goal.overflow_add-failing
overflow_add-failing c =
    let all = runs_of c.args.collection.now.reports in
    let r = run_of_report c.in-Some.report.now in
    let rest = runs_of (reports_after c.in-Some.report.now.run c.args.collection.now.reports) in
    let so_far = subst (λ (rs : List Report). Gathered c.args.collection.now.branches c.loop-report.slots.items c.loop-report.failing (runs_of rs) all) c.in-Some.ensures.value c.loop-report.invariant.0 in
    omega (arith, c.failures-failing.ensures, gathered-next-fails c.args.collection.now.branches c.loop-report.slots.items c.loop-report.failing r rest all so_far, length-map c.args.collection.now.reports run_of_report, c.reports_held-left.ensures)

pub loop-report-preserved : goal.loop-report-preserved
loop-report-preserved c =
    let all = runs_of c.args.collection.now.reports in
    let r = run_of_report c.in-Some.report.now in
    let rest = runs_of (reports_after c.in-Some.report.now.run c.args.collection.now.reports) in
    let so_far = subst (λ (rs : List Report). Gathered c.args.collection.now.branches c.loop-report.slots.items c.loop-report.failing (runs_of rs) all) c.in-Some.ensures.value c.loop-report.invariant.0 in
    let items : c.push.new.self.items ≡ c.loop-report.slots.items ++ new_slot r ∷ [] = c.in_ok-push.ensures.items ∙ ap (λ (x : LabelledRun). c.loop-report.slots.items ++ new_slot x ∷ []) c.in_ok-labelled.ensures in
    let next = gathered-step c.args.collection.now.branches c.loop-report.slots.items c.push.new.self.items c.loop-report.failing r rest all so_far c.in-Some.ensures.entries items in
    (subst (λ (n : ℕ). Gathered c.args.collection.now.branches c.push.new.self.items (c.loop-report.failing + n) rest all) (sym c.failures-failing.ensures) next, c.in-Some.ensures.small)

pub returns-clause-books : goal.returns-clause-books
returns-clause-books c =
    let all = runs_of c.args.collection.now.reports in
    let bs = c.args.collection.now.branches in
    let end = subst (λ (rs : List Report). Gathered bs c.loop-report.slots.items c.loop-report.failing (runs_of rs) all) c.in_default.ensures.value c.loop-report.invariant.0 in
    let runs : left_of c.loop-report.slots.items ≡ all = gathered-runs bs c.loop-report.slots.items c.loop-report.failing all end in
    let table = c.requires in
    let same : bs ≡ c.args.tallies.branches = sym table.branches_are in
    record {
      recounts = subst (λ (rs : List LabelledRun). AreRecounts c.args.tallies.branches rs c.args.tallies) (sym runs) (subst (λ (xs : List Bool). AreRecounts xs all c.args.tallies) same table);
      failing = omega (arith, end.failing_are, ap failing_runs runs);
      left = omega (arith, c.reports_held-left.ensures, ap length runs, length-map c.args.collection.now.reports run_of_report);
      few = omega (arith, c.reports_held-left.ensures, end.as_many, length-map c.args.collection.now.reports run_of_report);
      runs = subst (λ (xs : List Bool). All (λ (s : Slot). AreEntriesOf xs s.run.entries) c.loop-report.slots.items) same end.entries;
    }

pub returns-clause-runs : goal.returns-clause-runs
returns-clause-runs c =
    let all = runs_of c.args.collection.now.reports in
    let end = subst (λ (rs : List Report). Gathered c.args.collection.now.branches c.loop-report.slots.items c.loop-report.failing (runs_of rs) all) c.in_default.ensures.value c.loop-report.invariant.0 in
    gathered-runs c.args.collection.now.branches c.loop-report.slots.items c.loop-report.failing all end
