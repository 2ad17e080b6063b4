use Rattle.std.proofs.Common.{None, rules}
use Rattle.report_file.proofs.LineLemmas.{run-reads}
use Rattle.report_file.proofs.lines.run_in.Goals as goal

pub returns-in_default : goal.returns-in_default
returns-in_default c = run-reads c.args.line.now None (search rules)

pub returns : goal.returns
returns c = run-reads c.args.line.now c.alone.result (search rules)
