use Rattle.c_types_faults.proofs.Mains.{begins_in_main}
use Rattle.c_types_facts.proofs.laws.runs_begin_in_main.Goals as goal

pub returns : goal.returns
returns c = begins_in_main
