use Rattle.sampling.proofs.Functions.{fast_looks_at_nothing}
use Rattle.sampling.proofs.laws.fast_copies_look_at_nothing.Goals as goal

pub returns : goal.returns
returns c = fast_looks_at_nothing
