use Rattle.c_meaning_laws.proofs.ForLoops.{for_starts_before, for_without_step_is_while, loops}
use Rattle.c_meaning_laws.proofs.laws.a_for_is_its_while.Goals as goal

pub returns-clause-step : goal.returns-clause-step
returns-clause-step c = loops

pub returns-clause-alone : goal.returns-clause-alone
returns-clause-alone c = for_without_step_is_while

pub returns-clause-start : goal.returns-clause-start
returns-clause-start c = for_starts_before
