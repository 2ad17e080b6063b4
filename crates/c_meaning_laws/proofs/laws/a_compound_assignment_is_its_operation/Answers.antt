use Rattle.c_meaning_laws.proofs.Compounds.{compound_is_operation, compound_of_variable, typed_target_meets}
use Rattle.c_meaning_laws.proofs.laws.a_compound_assignment_is_its_operation.Goals as goal

pub returns-clause-place : goal.returns-clause-place
returns-clause-place c = compound_is_operation

pub returns-clause-variable : goal.returns-clause-variable
returns-clause-variable c = compound_of_variable

pub returns-clause-typed : goal.returns-clause-typed
returns-clause-typed c = typed_target_meets
