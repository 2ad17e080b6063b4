use Rattle.c_meaning_laws.proofs.Undefined.{declared_holds_nothing, read_is_met}
use Rattle.c_meaning_laws.proofs.laws.a_declaration_leaves_its_variable_undefined.Goals as goal

pub returns-clause-declared : goal.returns-clause-declared
returns-clause-declared c = declared_holds_nothing

pub returns-clause-read : goal.returns-clause-read
returns-clause-read c = read_is_met
