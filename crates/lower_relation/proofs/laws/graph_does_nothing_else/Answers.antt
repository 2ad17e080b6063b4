use Rattle.lower_relation.proofs.WholeRuns.{only_ending}
use Rattle.lower_relation.proofs.laws.graph_does_nothing_else.Goals as goal

pub returns : goal.returns
returns c = λ src p input bank turns ending is ends. only_ending src p is input bank turns ending ends
