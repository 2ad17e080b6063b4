use Rattle.compiler_exists.proofs.Functions.{stand_behind}
use Rattle.compiler_exists.proofs.lowered.nodes_stand_where_they_are_put.Goals as goal

pub returns : goal.returns
returns c = λ before nodes after. stand_behind before nodes after
