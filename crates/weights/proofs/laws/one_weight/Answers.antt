use Rattle.weights.proofs.WeightLemmas.{one_of}
use Rattle.weights.proofs.laws.one_weight.Goals as goal

pub returns : goal.returns
returns c = one_of
