use Rattle.std.proofs.Common.{◌-◌, sym, arith}
use Rattle.session.proofs.Runs.{at-next, no-next, none-at-zero, not-next}
use Rattle.elimination_tallies.proofs.RunLemmas.{are-entries}
use Rattle.session.proofs.kept.report_of.Goals as goal

pub returns-then-run-eq0-clause-value : goal.returns-then-run-eq0-clause-value
returns-then-run-eq0-clause-value c = none-at-zero c.args.collection.now c.args.run c.keeps.ensures c.if-run-eq0.true

pub returns-in_err-report-clause-value : goal.returns-in_err-report-clause-value
returns-in_err-report-clause-value c =
    rw c.from_residual.ensures (no-next c.args.collection.now (c.args.run - 1) c.args.run (omega arith) (sym c.in_err-report.ensures.value))

pub returns-then-report-run-clause-value : goal.returns-then-report-run-clause-value
returns-then-report-run-clause-value c =
    at-next c.args.collection.now (c.args.run - 1) c.args.run c.in_ok-report.report.now c.keeps.ensures (omega arith) (sym c.in_ok-report.ensures.value) c.if-report-run.true

pub returns-then-report-run-clause-entries : goal.returns-then-report-run-clause-entries
returns-then-report-run-clause-entries c = are-entries c.args.collection.now c.in_ok-report.report.now c.in_ok-report.ensures.is_report c.in_ok-report.ensures.ours

pub returns-else-report-run-clause-value : goal.returns-else-report-run-clause-value
returns-else-report-run-clause-value c =
    not-next c.args.collection.now (c.args.run - 1) c.args.run c.in_ok-report.report.now c.keeps.ensures (omega arith) (sym c.in_ok-report.ensures.value) c.if-report-run.false
