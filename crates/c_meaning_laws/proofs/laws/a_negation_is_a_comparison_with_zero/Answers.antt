use Rattle.c_meaning_laws.proofs.Negation.{not_is_equals_zero}
use Rattle.c_meaning_laws.proofs.Typed.{typed_value_meets}
use Rattle.c_meaning_laws.proofs.laws.a_negation_is_a_comparison_with_zero.Goals as goal

pub returns-clause-equal : goal.returns-clause-equal
returns-clause-equal c = not_is_equals_zero

pub returns-clause-typed : goal.returns-clause-typed
returns-clause-typed c = typed_value_meets
