use Rattle.c_meaning_laws.proofs.Frames.{body_begins_afresh, variables_die}
use Rattle.c_meaning_laws.proofs.laws.a_call_has_variables_of_its_own.Goals as goal

pub returns-clause-begins : goal.returns-clause-begins
returns-clause-begins c = body_begins_afresh

pub returns-clause-dies : goal.returns-clause-dies
returns-clause-dies c = variables_die
