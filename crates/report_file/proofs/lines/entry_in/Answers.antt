use Rattle.std.proofs.Common.{rules}
use Rattle.report_file.proofs.LineLemmas.{entry-reads}
use Rattle.report_file.proofs.lines.entry_in.Goals as goal

pub returns : goal.returns
returns c = entry-reads c.args.line.now c.entry_of_fields.result (search rules)
