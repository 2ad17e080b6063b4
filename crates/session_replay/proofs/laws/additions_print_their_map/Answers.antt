use Rattle.session_replay.proofs.Printed.{additions-map}
use Rattle.session_replay.proofs.laws.additions_print_their_map.Goals as goal

pub returns : goal.returns
returns c = additions-map
