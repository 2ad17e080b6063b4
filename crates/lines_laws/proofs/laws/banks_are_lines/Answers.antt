use Rattle.lines_laws.proofs.Banks.{banks_are_lines}
use Rattle.lines_laws.proofs.laws.banks_are_lines.Goals as goal

pub returns : goal.returns
returns c = banks_are_lines
