use Rattle.compiler_exists.proofs.Functions.{function}
use Rattle.compiler_exists.proofs.lowered.each_body_has_nodes.Goals as goal

pub returns : goal.returns
returns c = λ facts sites is_main gives body. function facts sites is_main gives body
