use Rattle.c_meaning_laws.proofs.Initialising.{declaration_is_one_of_each, initialiser_is_assignment}
use Rattle.c_meaning_laws.proofs.laws.an_initialiser_is_an_assignment.Goals as goal

pub returns-clause-assigned : goal.returns-clause-assigned
returns-clause-assigned c = initialiser_is_assignment

pub returns-clause-each : goal.returns-clause-each
returns-clause-each c = declaration_is_one_of_each
