use Rattle.std.proofs.Common.{◌≡◌, ◌<◌, map, drop}
use Rattle.c_syntax.specs.Words.{most_bytes, plain_item}
use Rattle.c_types_expressions.specs.Room.{HasRoom}
use Rattle.c_types_walk.specs.ItemWalk.{walk_items}
use Rattle.c_types_walk.specs.Room.{items_need, items_text}
use Rattle.c_types_walk.proofs.item_walk.walk_items.Given as goal

-- the walk through the items that are left comes to what the whole walk comes to, and there is room for them
abbrev pub invariant-loop-item : goal.invariant-loop-item
invariant-loop-item l =
    (walk_items (map plain_item (drop l.item-index l.items)) l.walk ≡ walk_items (map plain_item l.items) l.fn.walk)
    × HasRoom (items_need (map plain_item (drop l.item-index l.items))) l.walk
    × (items_text (map plain_item (drop l.item-index l.items)) < most_bytes)
