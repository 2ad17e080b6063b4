use Rattle.collector.proofs.RunTexts.{no-run}
use Rattle.collector.proofs.run_text.run_line.Goals as goal

pub returns-in_err-value : goal.returns-in_err-value
returns-in_err-value c =
    rw c.from_residual-in_err-value.ensures (no-run c.args.bytes.now c.in_ok-line.line.now c.in_ok-line.rest.now c.run_line_in.result c.in_ok-line.ensures.0 c.in_ok-line.ensures.1 c.run_line_in.ensures c.in_err-value.was)
