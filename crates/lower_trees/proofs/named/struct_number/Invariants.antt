use Rattle.std.proofs.Common.{◌≡◌, ◌≤◌, drop}
use Rattle.std.specs.Prelude.{map}
use Rattle.c_syntax.specs.Plain.{plain_item}
use Rattle.c_meaning.specs.Known.{struct_number}
use Rattle.lower_trees.proofs.named.struct_number.Given as goal

abbrev pub invariant-loop-item : goal.invariant-loop-item
invariant-loop-item l = (l.number ≤ l.item-index)
    × (struct_number l.number l.tag (map plain_item (drop l.item-index l.items)) ≡ struct_number 0 l.tag (map plain_item l.items))
