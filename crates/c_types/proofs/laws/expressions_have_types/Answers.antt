use Rattle.c_types.proofs.TokenLaws.{types_at, no_type_beyond}
use Rattle.c_types.proofs.laws.expressions_have_types.Goals as goal

pub returns-clause-exact : goal.returns-clause-exact
returns-clause-exact c = types_at

pub returns-clause-beyond : goal.returns-clause-beyond
returns-clause-beyond c = no_type_beyond
