use Rattle.collector.proofs.Once.{spells-once}
use Rattle.collector.proofs.laws.one_collection.Goals as goal

pub returns : goal.returns
returns c = spells-once c.args.alloc
