use Rattle.c_types_facts.proofs.Texts.{types_exact, variables_typed}
use Rattle.c_types_facts.proofs.laws.variables_have_declared_types.Goals as goal

pub returns-clause-exact : goal.returns-clause-exact
returns-clause-exact c = types_exact

pub returns-clause-said : goal.returns-clause-said
returns-clause-said c = variables_typed
