use Rattle.sampling.proofs.Functions.{fast_ways_look_at_nothing}
use Rattle.sampling.proofs.laws.fast_ways_look_at_nothing.Goals as goal

pub returns : goal.returns
returns c = fast_ways_look_at_nothing
