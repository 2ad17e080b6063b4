use Rattle.sampling.proofs.Labelling.{one_labelling}
use Rattle.sampling.proofs.laws.one_labelling.Goals as goal

pub returns : goal.returns
returns c = one_labelling
