use Rattle.lines_laws.proofs.Edits.{edits_are_lines}
use Rattle.lines_laws.proofs.laws.edits_are_lines.Goals as goal

pub returns : goal.returns
returns c = edits_are_lines
