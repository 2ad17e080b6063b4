use Rattle.c_meaning_laws.proofs.Passing.{return_is_assigned}
use Rattle.c_meaning_laws.proofs.laws.a_return_is_an_assignment.Goals as goal

pub returns : goal.returns
returns c = return_is_assigned
