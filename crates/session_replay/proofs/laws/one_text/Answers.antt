use Rattle.session_replay.proofs.Printed.{one-text}
use Rattle.session_replay.proofs.laws.one_text.Goals as goal

pub returns : goal.returns
returns c = one-text
