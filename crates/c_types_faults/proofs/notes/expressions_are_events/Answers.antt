use Rattle.c_types_faults.proofs.Types.{types_are}
use Rattle.c_types_faults.proofs.notes.expressions_are_events.Goals as goal

pub returns : goal.returns
returns c = types_are
