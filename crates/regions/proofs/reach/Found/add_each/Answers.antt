use Rattle.regions.proofs.ReachLemmas.{reached_next}
use Rattle.regions.proofs.reach.Found.add_each.Goals as goal

pub loop-function-preserved : goal.loop-function-preserved
loop-function-preserved c =
    reached_next c.args.self.now.flags.items c.args.self.now.order.items c.loop-function.self.flags.items c.loop-function.self.order.items
    c.add.new.self.flags.items c.add.new.self.order.items c.args.functions.now c.loop-function.function-index c.loop-function-test.true
    c.loop-function.invariant c.in_ok-add.ensures
