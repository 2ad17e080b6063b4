use Rattle.std.proofs.Common.{rules}
use Rattle.report_file.proofs.LineLemmas.{outcome-reads}
use Rattle.report_file.proofs.lines.outcome_in.Goals as goal

pub returns : goal.returns
returns c = outcome-reads c.args.line.now c.outcome_in_fields.result (search rules)
