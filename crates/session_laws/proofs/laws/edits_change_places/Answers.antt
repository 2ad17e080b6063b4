use Rattle.session_laws.proofs.Steps.{places-change}
use Rattle.session_laws.proofs.laws.edits_change_places.Goals as goal

pub returns : goal.returns
returns c = places-change
