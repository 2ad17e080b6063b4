use Rattle.std.proofs.Common.{◌≡◌, drop}
use Rattle.c_types_expressions.specs.Room.{HasRoomLeft}
use Rattle.c_types_walk.specs.ItemWalk.{walk_members}
use Rattle.c_types_walk.proofs.struct_walk.walk_members.Given as goal

abbrev pub invariant-loop-line : goal.invariant-loop-line
invariant-loop-line l =
    (walk_members (drop l.line-index l.members) l.known l.walk ≡ walk_members l.members l.fn.first l.fn.walk) × HasRoomLeft 0 0 l.fn.walk l.walk
