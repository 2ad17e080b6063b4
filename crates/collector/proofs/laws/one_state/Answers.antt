use Rattle.collector.proofs.Once.{leads-once}
use Rattle.collector.proofs.laws.one_state.Goals as goal

pub returns : goal.returns
returns c = leads-once
