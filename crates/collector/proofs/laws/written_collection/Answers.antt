use Rattle.collector.proofs.Keeps.{written}
use Rattle.collector.proofs.laws.written_collection.Goals as goal

pub returns : goal.returns
returns c = written
