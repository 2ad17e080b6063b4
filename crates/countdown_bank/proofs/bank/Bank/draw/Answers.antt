use Rattle.std.proofs.Common.{arith}
use Rattle.countdown_bank.proofs.Rounds.{number_after-is}
use Rattle.countdown_bank.proofs.Holding.{number-held, drawn-on}
use Rattle.countdown_bank.proofs.bank.Bank.draw.Goals as goal

pub returns-then-self-clause-value : goal.returns-then-self-clause-value
returns-then-self-clause-value c =
    rw (← c.self.view_is) (number_after-is _ _ c.self.invariant.bank.position (number-held _ _ _ _ _ c.reach.ensures.same c.reach.ensures.reached c.index-number.ensures))

pub returns-else-self-clause-value : goal.returns-else-self-clause-value
returns-else-self-clause-value c =
    rw (← c.self.view_is) (number_after-is _ _ c.self.invariant.bank.position (number-held _ _ _ _ _ c.reach.ensures.same c.reach.ensures.reached c.index-number.ensures))

pub returns-else-self-clause-moved : goal.returns-else-self-clause-moved
returns-else-self-clause-moved c =
    rw (← c.self.view_is) (drawn-on c.self.inside.made.items c.self.inside.later c.reach.new.made.items c.reach.new.later c.self.inside.count c.self.inside.position c.reach.ensures.same c.self.invariant.whole (omega arith))
