use Rattle.c_meaning_laws.proofs.Choices.{comma_is_sequence, conditional_is_if, negated_condition_swaps}
use Rattle.c_meaning_laws.proofs.laws.expressions_are_statements.Goals as goal

pub returns-clause-comma : goal.returns-clause-comma
returns-clause-comma c = comma_is_sequence

pub returns-clause-conditional : goal.returns-clause-conditional
returns-clause-conditional c = conditional_is_if

pub returns-clause-negation : goal.returns-clause-negation
returns-clause-negation c = negated_condition_swaps
