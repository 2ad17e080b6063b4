use Rattle.std.proofs.Common.{◌≡◌, ◌++◌, drop}
use Rattle.std.specs.Prelude.{map}
use Rattle.c_syntax.specs.Plain.{plain_item}
use Rattle.lower_trees.specs.Joined.{strings_of_items}
use Rattle.lower_trees.proofs.string_walk.strings_of_items.Given as goal

abbrev pub invariant-loop-item : goal.invariant-loop-item
invariant-loop-item l = l.strings ++ strings_of_items (map plain_item (drop l.item-index l.items)) ≡ l.fn.strings ++ strings_of_items (map plain_item l.items)
