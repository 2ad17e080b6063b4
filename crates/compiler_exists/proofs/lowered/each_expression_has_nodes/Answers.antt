use Rattle.compiler_exists.proofs.Expressions.{expression}
use Rattle.compiler_exists.proofs.lowered.each_expression_has_nodes.Goals as goal

pub returns : goal.returns
returns c = λ facts sites y. expression facts sites y
