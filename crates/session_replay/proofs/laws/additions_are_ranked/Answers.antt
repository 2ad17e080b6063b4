use Rattle.session_replay.proofs.Printed.{additions-ranked}
use Rattle.session_replay.proofs.laws.additions_are_ranked.Goals as goal

pub returns : goal.returns
returns c = additions-ranked
