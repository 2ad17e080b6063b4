use Rattle.std.proofs.Common.{arith, refl}
use Rattle.lower_trees.proofs.Bodied.{places_next}
use Rattle.lower_trees.proofs.bodies.body_places.Goals as goal

pub loop-item-preserved : goal.loop-item-preserved
loop-item-preserved c = (
  omega arith,
  places_next c.args.items.now c.loop-item.item-index c.loop-item.place _ c.item-item.result _ c.loop-item.places.items _ refl c.loop-item-test.true c.item-item.is
      (rw c.defines.ensures at c.in_ok-add_place.ensures) c.loop-item.invariant.1,
)
