use Rattle.c_meaning_laws.proofs.Exits.{return_of_main_exits, run_is_of_main}
use Rattle.c_meaning_laws.proofs.Typed.{typed_main_meets}
use Rattle.c_meaning_laws.proofs.laws.a_return_of_main_exits.Goals as goal

pub returns-clause-ends : goal.returns-clause-ends
returns-clause-ends c = return_of_main_exits

pub returns-clause-run : goal.returns-clause-run
returns-clause-run c = run_is_of_main

pub returns-clause-typed : goal.returns-clause-typed
returns-clause-typed c = typed_main_meets
