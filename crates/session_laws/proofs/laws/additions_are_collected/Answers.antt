use Rattle.session_laws.proofs.Taken.{additions-only, additions-taken}
use Rattle.session_laws.proofs.laws.additions_are_collected.Goals as goal

pub returns : goal.returns
returns c = record { taken = additions-taken; only = additions-only }
