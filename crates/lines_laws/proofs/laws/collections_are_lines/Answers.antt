use Rattle.lines_laws.proofs.Collections.{collections_are_lines}
use Rattle.lines_laws.proofs.laws.collections_are_lines.Goals as goal

pub returns : goal.returns
returns c = collections_are_lines
