use Rattle.program_file.proofs.Whole.{one-program}
use Rattle.program_file.proofs.read.one_program.Goals as goal

pub returns : goal.returns
returns c = λ text p q sp sq. one-program c.args._alloc text p q sp sq
