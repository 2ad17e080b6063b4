use Rattle.compiler_exists.proofs.Programs.{has_program}
use Rattle.compiler_exists.proofs.lowered.each_source_has_a_program.Goals as goal

pub returns : goal.returns
returns c = λ src texts globals table brings. has_program src texts globals table brings
