use Rattle.c_meaning_laws.proofs.Steps.{decrement_is_difference, increment_is_sum, step_behind_is_step}
use Rattle.c_meaning_laws.proofs.laws.a_step_is_its_assignment.Goals as goal

pub returns-clause-increment : goal.returns-clause-increment
returns-clause-increment c = increment_is_sum

pub returns-clause-decrement : goal.returns-clause-decrement
returns-clause-decrement c = decrement_is_difference

pub returns-clause-behind : goal.returns-clause-behind
returns-clause-behind c = step_behind_is_step
