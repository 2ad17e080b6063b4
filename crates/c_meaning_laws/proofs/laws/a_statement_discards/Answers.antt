use Rattle.c_meaning_laws.proofs.Effects.{cast_discards, statement_discards}
use Rattle.c_meaning_laws.proofs.laws.a_statement_discards.Goals as goal

pub returns-clause-cast : goal.returns-clause-cast
returns-clause-cast c = cast_discards

pub returns-clause-value : goal.returns-clause-value
returns-clause-value c = statement_discards
