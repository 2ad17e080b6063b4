use Rattle.c_meaning_laws.proofs.Passing.{call_passes_arguments}
use Rattle.c_meaning_laws.proofs.laws.a_call_passes_its_arguments.Goals as goal

pub returns : goal.returns
returns c = call_passes_arguments
