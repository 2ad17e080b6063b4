use Rattle.lines_laws.proofs.Lists.{lists_are_lines}
use Rattle.lines_laws.proofs.laws.lists_are_lines.Goals as goal

pub returns : goal.returns
returns c = lists_are_lines
