use Rattle.std.proofs.Common.{arith}
use Rattle.compound.proofs.PlaceLemmas.{row-end, row-more, row-none}
use Rattle.compound.proofs.places.add_pairs.Goals as goal

pub loop-right-init : goal.loop-right-init
loop-right-init c = row-none c.args.left c.args.pairs.now.items

pub loop-right-preserved : goal.loop-right-preserved
loop-right-preserved c = row-more c.args.left c.loop-right.right c.args.pairs.now.items c.loop-right.pairs.items c.push.new.self.items c.loop-right.auto.right c.in_ok-push.ensures.items c.loop-right.invariant

pub returns : goal.returns
returns c = row-end c.args.left c.args.count c.loop-right.right c.args.pairs.now.items c.loop-right.pairs.items (omega (arith, c.loop-right-test.false, c.loop-right.auto.right-end (omega arith))) c.loop-right.invariant
