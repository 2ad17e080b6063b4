use Rattle.std.proofs.Common.{◌≡◌, ◌≤◌, ◌++◌, drop}
use Rattle.std.specs.Prelude.{map}
use Rattle.c_syntax.specs.Plain.{plain_item}
use Rattle.lower_trees.specs.Bodies.{definition_places}
use Rattle.lower_trees.proofs.bodies.body_places.Given as goal

-- the places so far and those in what is left are all of them
abbrev pub invariant-loop-item : goal.invariant-loop-item
invariant-loop-item l =
    (l.place ≤ l.item-index) × (l.places.items ++ definition_places l.place (map plain_item (drop l.item-index l.items)) ≡ definition_places 0 (map plain_item l.items))
