use Rattle.flow.proofs.StaticsLaws.{have_room}
use Rattle.flow.proofs.laws.statics_have_room.Goals as goal

pub returns : goal.returns
returns c = have_room
