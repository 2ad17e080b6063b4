use Rattle.std.proofs.Common.{ℕ, List, ◌++◌, ◌∙◌, ap, arith, sym}
use Rattle.elimination_tallies.proofs.RunLemmas.{all-after, collection-rises}
use Rattle.elimination_tallies.specs.Runs.{reports_after}
use Rattle.bug_rounds.specs.Live.{failing_numbers}
use Rattle.bug_rounds.proofs.Owned.{numbers-more, numbers-same}
use Rattle.bug_rounds.proofs.live.failing_numbers.Goals as goal

pub loop-report-init : goal.loop-report-init
loop-report-init c = (ap (λ (ns : List ℕ). ns ++ failing_numbers (reports_after 0 c.args.collection.now.reports)) c.new-live.ensures.items ∙ ap failing_numbers (all-after 0 1 c.args.collection.now.reports (omega arith) (collection-rises c.args.collection.now c.keeps.ensures)), omega arith)

pub loop-report-preserved-in-Continue-1 : goal.loop-report-preserved-in-Continue-1
loop-report-preserved-in-Continue-1 c =
    let reports = c.args.collection.now.reports in
    let r = c.in-Some.report.now in
    (numbers-more r (reports_after c.loop-report.run reports) (reports_after r.run reports) c.loop-report.live.items c.push.new.self.items (failing_numbers reports) c.in-Some.ensures.value c.loop-report.invariant.0 (sym c.if-fails.ensures) c.in_ok-push.ensures.items, c.in-Some.ensures.small)

pub loop-report-preserved : goal.loop-report-preserved
loop-report-preserved c =
    let reports = c.args.collection.now.reports in
    let r = c.in-Some.report.now in
    (numbers-same r (reports_after c.loop-report.run reports) (reports_after r.run reports) c.loop-report.live.items (failing_numbers reports) c.in-Some.ensures.value c.loop-report.invariant.0 (sym c.if-fails.ensures), c.in-Some.ensures.small)
