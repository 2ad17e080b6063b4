use Rattle.std.proofs.Common.{◌+◌, subst, sym, arith}
use Rattle.compound_counts.specs.Runs.{IsCounted}
use Rattle.compound_counts.proofs.Cuts.{counted-end, counted-few, counted-start, counted-step, cut-later}
use Rattle.compound_counts.proofs.labels.run_count.Goals as goal

pub loop-report-init : goal.loop-report-init
loop-report-init c = (counted-start c.args.failing c.args.collection.now c.keeps.ensures, omega arith)

pub loop-report-smaller : goal.loop-report-smaller
loop-report-smaller c =
    let so_far = c.loop-report.invariant.0 in
    omega (arith, cut-later c.args.collection.now.reports c.loop-report.last so_far.before so_far.after c.in-Some.report.now so_far.cut (sym c.in-Some.ensures.value), c.in-Some.ensures.is_report.run.most)

pub overflow_add-count : goal.overflow_add-count
overflow_add-count c =
    let step = counted-step c.args.failing c.args.collection.now.reports c.loop-report.last c.loop-report.count c.in-Some.report.now c.loop-report.invariant.0 (sym c.in-Some.ensures.value) in
    omega (arith, step.1, c.counted-count.ensures, counted-few c.args.failing c.args.collection.now c.keeps.ensures)

pub loop-report-preserved : goal.loop-report-preserved
loop-report-preserved c =
    let r = c.in-Some.report.now in
    let step = counted-step c.args.failing c.args.collection.now.reports c.loop-report.last c.loop-report.count r c.loop-report.invariant.0 (sym c.in-Some.ensures.value) in
    (subst (λ n. IsCounted c.args.failing c.args.collection.now.reports r.run (c.loop-report.count + n)) (sym c.counted-count.ensures) step.0, omega (arith, c.in-Some.ensures.is_report.run.most))

pub returns-clause-value : goal.returns-clause-value
returns-clause-value c = counted-end c.args.failing c.args.collection.now.reports c.loop-report.last c.loop-report.count c.loop-report.invariant.0 (sym c.in_default.ensures.value)

pub returns-clause-few : goal.returns-clause-few
returns-clause-few c = omega (arith, returns-clause-value c, counted-few c.args.failing c.args.collection.now c.keeps.ensures)
