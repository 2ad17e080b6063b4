use Rattle.session_laws.proofs.Maps.{accepted-hold, held-once}
use Rattle.session_laws.proofs.laws.accepted_edits_hold.Goals as goal

pub returns : goal.returns
returns c = record { held = accepted-hold; one = held-once }
