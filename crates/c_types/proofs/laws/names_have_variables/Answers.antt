use Rattle.c_types.proofs.TokenLaws.{variables_at, no_variable_beyond}
use Rattle.c_types.proofs.laws.names_have_variables.Goals as goal

pub returns-clause-exact : goal.returns-clause-exact
returns-clause-exact c = variables_at

pub returns-clause-beyond : goal.returns-clause-beyond
returns-clause-beyond c = no_variable_beyond
