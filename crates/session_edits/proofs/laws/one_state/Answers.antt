use Rattle.session_edits.proofs.Once.{leads-once}
use Rattle.session_edits.proofs.laws.one_state.Goals as goal

pub returns : goal.returns
returns c = leads-once
