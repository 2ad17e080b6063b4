use Rattle.compiler_exists.proofs.Cloning.{has_clone}
use Rattle.compiler_exists.proofs.cloned.each_program_has_a_cloned_form.Goals as goal

pub returns : goal.returns
returns c = λ p is may. has_clone p is may
