use Rattle.std.specs.Prelude.{map}
use Rattle.std.proofs.lemmas.List.Concat.{flat_map-cons}
use Rattle.c_syntax.specs.Plain.{plain_item}
use Rattle.c_meaning.specs.Literals.{strings_of_item}
use Rattle.lower_trees.specs.Joined.{strings_of_items}
use Rattle.lower_trees.proofs.Appending.{next_added}
use Rattle.lower_trees.proofs.string_walk.strings_of_items.Goals as goal

pub loop-item-preserved : goal.loop-item-preserved
loop-item-preserved c =
    next_added (λ xs. strings_of_items (map plain_item xs)) (λ x. strings_of_item (plain_item x))
    (λ x xs. flat_map-cons strings_of_item (plain_item x) (map plain_item xs)) c.args.items.now c.loop-item.item-index c.item-item.result _ _ _
    c.loop-item-test.true c.item-item.is c.in_ok-strings_of_item.ensures c.loop-item.invariant
