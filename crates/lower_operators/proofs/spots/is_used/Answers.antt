use Rattle.std.proofs.Common.{◌+◌, refl, sym}
use Rattle.lower_operators.proofs.Spotted.{none_left, some_left}
use Rattle.lower_operators.proofs.spots.is_used.Goals as goal

pub returns-then-taken : goal.returns-then-taken
returns-then-taken c = rw c.if-taken.true refl

pub returns-then-after-count : goal.returns-then-after-count
returns-then-after-count c = rw c.if-taken.false (sym (some_left c.args.operators.now (c.args.place + 1) c.if-after-count.true))

pub returns : goal.returns
returns c = rw c.if-taken.false (sym (none_left c.args.operators.now (c.args.place + 1) c.if-after-count.false))
