use Rattle.compound.proofs.PlaceLemmas.{pairs-end, pairs-more}
use Rattle.compound.proofs.places.place_pairs.Goals as goal

pub loop-left-preserved : goal.loop-left-preserved
loop-left-preserved c = pairs-more c.loop-left.pairs.items c.add_pairs.new.pairs.items c.loop-left.left c.args.count c.loop-left-test.true c.in_ok-add_pairs.ensures c.loop-left.invariant

pub returns : goal.returns
returns c = pairs-end c.loop-left.pairs.items c.loop-left.left c.args.count c.loop-left-test.false c.loop-left.invariant
