use Rattle.flow.proofs.MoveLaws.{back}
use Rattle.flow.proofs.laws.moves_undo.Goals as goal

pub returns : goal.returns
returns c = back
