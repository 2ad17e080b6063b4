use Rattle.c_meaning_laws.proofs.Assigned.{assignment_is_read}
use Rattle.c_meaning_laws.proofs.laws.an_assignment_is_what_its_variable_holds.Goals as goal

pub returns : goal.returns
returns c = assignment_is_read
