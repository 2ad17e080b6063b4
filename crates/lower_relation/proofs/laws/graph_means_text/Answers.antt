use Rattle.lower_relation.proofs.WholeRuns.{run_ok}
use Rattle.lower_relation.proofs.laws.graph_means_text.Goals as goal

pub returns : goal.returns
returns c = λ src p input bank turns is. run_ok src p is input bank turns
