use Rattle.program_file_laws.proofs.Spelled.{lines_come}
use Rattle.program_file_laws.proofs.laws.spelled_lines_come.Goals as goal

pub returns : goal.returns
returns c = lines_come
