use Rattle.std.proofs.lemmas.List.Concat.{flat_map-cons}
use Rattle.lower_trees.specs.Joined.{joined_strings}
use Rattle.lower_trees.proofs.Appending.{next_added}
use Rattle.lower_trees.proofs.strings.joined.Goals as goal

pub loop-part-preserved : goal.loop-part-preserved
loop-part-preserved c =
    next_added joined_strings (λ x. x) (λ x xs. flat_map-cons (λ bytes. bytes) x xs) c.args.parts.now c.loop-part.part-index c.part-item.result _ _ _
    c.loop-part-test.true c.part-item.is (rw c.as_slice.ensures at c.in_ok-extend_from_slice.ensures.items) c.loop-part.invariant
