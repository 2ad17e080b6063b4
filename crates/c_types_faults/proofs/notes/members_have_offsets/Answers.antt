use Rattle.c_types_faults.proofs.Offsets.{offsets_are}
use Rattle.c_types_faults.proofs.notes.members_have_offsets.Goals as goal

pub returns : goal.returns
returns c = offsets_are
