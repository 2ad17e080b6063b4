use Rattle.c_types_faults.proofs.Calls.{functions_are}
use Rattle.c_types_faults.proofs.notes.calls_have_functions.Goals as goal

pub returns : goal.returns
returns c = functions_are
