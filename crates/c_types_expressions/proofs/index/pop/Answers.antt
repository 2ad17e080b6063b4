use Rattle.std.proofs.Common.{ap, sym, is_some}
use Rattle.c_types_expressions.proofs.Stacks.{popped}
use Rattle.c_types_expressions.proofs.index.pop.Goals as goal

pub returns-in-Some : goal.returns-in-Some
returns-in-Some c =
    popped c.args.name.now c.args.stacks.now (c.get_mut.follows.lender c.pop.new.self) c.pop.new.self c.in-Some.stack.now c.in-Some.ensures.value
    ((c.get_mut.follows.holds c.pop.new.self).3 (ap is_some (sym c.in-Some.ensures.value))) c.pop.ensures.rest
