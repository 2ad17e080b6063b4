use Rattle.c_meaning_laws.proofs.Rounds.{do_is_first_round, while_is_first_round}
use Rattle.c_meaning_laws.proofs.laws.a_while_is_its_first_round.Goals as goal

pub returns-clause-while_loop : goal.returns-clause-while_loop
returns-clause-while_loop c = while_is_first_round

pub returns-clause-do_loop : goal.returns-clause-do_loop
returns-clause-do_loop c = do_is_first_round
