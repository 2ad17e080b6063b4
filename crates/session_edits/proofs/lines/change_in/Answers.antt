use Rattle.std.proofs.Common.{rules}
use Rattle.session_edits.proofs.LineLemmas.{change-reads}
use Rattle.session_edits.proofs.lines.change_in.Goals as goal

pub returns : goal.returns
returns c = change-reads c.args.line.now c.change_of.result (search rules)
