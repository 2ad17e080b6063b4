use Rattle.std.proofs.Common.{◌+◌, arith}
use Rattle.elimination_tallies.proofs.RunLemmas.{all-after, collection-rises}
use Rattle.suspicious_lines.proofs.TotalLemmas.{totals-end, totals-few, totals-next, totals-start}
use Rattle.suspicious_lines.proofs.totals.totals_of.Goals as goal

pub loop-report-init : goal.loop-report-init
loop-report-init c = (totals-start c.args.collection.now.reports 0 (all-after 0 1 c.args.collection.now.reports (omega arith) (collection-rises c.args.collection.now c.keeps.ensures)), omega arith)

pub overflow_add-failing : goal.overflow_add-failing
overflow_add-failing c =
    let reports = c.args.collection.now.reports in
    let next = totals-next reports c.loop-report.run c.loop-report.failing c.loop-report.successful c.failures-fails.result c.successes-succeeds.result c.in-Some.report.now c.loop-report.invariant.0 c.in-Some.ensures.value c.failures-fails.ensures c.successes-succeeds.ensures in
    omega (arith, totals-few reports c.in-Some.report.now.run (c.loop-report.failing + c.failures-fails.result) (c.loop-report.successful + c.successes-succeeds.result) next c.keeps.ensures.few)

pub overflow_add-successful : goal.overflow_add-successful
overflow_add-successful c =
    let reports = c.args.collection.now.reports in
    let next = totals-next reports c.loop-report.run c.loop-report.failing c.loop-report.successful c.failures-fails.result c.successes-succeeds.result c.in-Some.report.now c.loop-report.invariant.0 c.in-Some.ensures.value c.failures-fails.ensures c.successes-succeeds.ensures in
    omega (arith, totals-few reports c.in-Some.report.now.run (c.loop-report.failing + c.failures-fails.result) (c.loop-report.successful + c.successes-succeeds.result) next c.keeps.ensures.few)

pub loop-report-preserved : goal.loop-report-preserved
loop-report-preserved c =
    (totals-next c.args.collection.now.reports c.loop-report.run c.loop-report.failing c.loop-report.successful c.failures-fails.result c.successes-succeeds.result c.in-Some.report.now c.loop-report.invariant.0 c.in-Some.ensures.value c.failures-fails.ensures c.successes-succeeds.ensures, c.in-Some.ensures.small)

pub returns-clause-failing : goal.returns-clause-failing
returns-clause-failing c = (totals-end c.args.collection.now.reports c.loop-report.run c.loop-report.failing c.loop-report.successful c.loop-report.invariant.0 c.in_default.ensures.value).0

pub returns-clause-successful : goal.returns-clause-successful
returns-clause-successful c = (totals-end c.args.collection.now.reports c.loop-report.run c.loop-report.failing c.loop-report.successful c.loop-report.invariant.0 c.in_default.ensures.value).1

pub returns-clause-few : goal.returns-clause-few
returns-clause-few c = totals-few c.args.collection.now.reports c.loop-report.run c.loop-report.failing c.loop-report.successful c.loop-report.invariant.0 c.keeps.ensures.few
