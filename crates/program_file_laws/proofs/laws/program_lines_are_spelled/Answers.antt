use Rattle.program_file_laws.proofs.Spelled.{lines_are_spelled}
use Rattle.program_file_laws.proofs.laws.program_lines_are_spelled.Goals as goal

pub returns : goal.returns
returns c = lines_are_spelled
