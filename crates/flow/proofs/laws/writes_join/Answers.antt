use Rattle.flow.proofs.WriteLaws.{joins}
use Rattle.flow.proofs.laws.writes_join.Goals as goal

pub returns : goal.returns
returns c = joins
