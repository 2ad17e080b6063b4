use Rattle.std.proofs.Common.{rules}
use Rattle.report_file.proofs.LineLemmas.{program-none, program-some}
use Rattle.report_file.proofs.lines.program_in.Goals as goal

pub returns-in_default : goal.returns-in_default
returns-in_default c = program-none c.args.line.now (search rules)

pub returns : goal.returns
returns c = program-some c.args.line.now c.in-Some.text.now c.read_id.result (search rules) c.read_id.ensures.found.0 c.read_id.ensures.only
