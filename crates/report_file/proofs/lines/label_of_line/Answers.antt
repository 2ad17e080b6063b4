use Rattle.std.proofs.Common.{None, rules}
use Rattle.report_file.proofs.LineLemmas.{label-reads}
use Rattle.report_file.proofs.lines.label_of_line.Goals as goal

pub returns-in_default : goal.returns-in_default
returns-in_default c = label-reads c.args.line.now None (search rules)

pub returns : goal.returns
returns c = label-reads c.args.line.now c.alone.result (search rules)
