use Rattle.std.proofs.Common.{None, rules}
use Rattle.report_file.proofs.LineLemmas.{work-reads}
use Rattle.report_file.proofs.lines.work_in.Goals as goal

pub returns-in_default : goal.returns-in_default
returns-in_default c = work-reads c.args.line.now None (search rules)

pub returns : goal.returns
returns c = work-reads c.args.line.now c.alone.result (search rules)
