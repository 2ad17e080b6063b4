use Rattle.countdown_bank.proofs.Rounds.{number_after-drawn, number_after-first, drawn-next, drawn-round}
use Rattle.countdown_bank.proofs.bank.numbers_come_round.Goals as goal

pub returns : goal.returns
returns c = record {
  first = λ b is_bank. number_after-first b is_bank.position;
  next = drawn-next;
  round = drawn-round;
  rest = number_after-drawn;
}
