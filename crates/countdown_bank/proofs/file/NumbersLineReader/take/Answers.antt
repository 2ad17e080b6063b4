use Rattle.std.proofs.Common.{arith}
use Rattle.countdown_bank.proofs.file.NumbersLineReader.take.Goals as goal

pub returns-clause-ok : goal.returns-clause-ok
returns-clause-ok c = rw (← c.self.view_is) (record {
  number = c.in-Some.number;
  is_countdown = c.in-Some.ensures.found.1;
  room = omega arith;
  line_is = c.in-Some.ensures.found.0;
  after_is = c.in-Ok.ensures.items;
})
