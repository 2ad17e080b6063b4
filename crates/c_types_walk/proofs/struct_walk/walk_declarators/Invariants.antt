use Rattle.std.proofs.Common.{◌≡◌, drop}
use Rattle.c_types_expressions.specs.Room.{HasRoomLeft}
use Rattle.c_types_walk.specs.ItemWalk.{walk_declarators}
use Rattle.c_types_walk.proofs.struct_walk.walk_declarators.Given as goal

abbrev pub invariant-loop-declarator : goal.invariant-loop-declarator
invariant-loop-declarator l =
    (walk_declarators l.base (drop l.declarator-index l.declarators) l.known l.walk ≡ walk_declarators l.base l.declarators l.fn.first l.fn.walk)
    × HasRoomLeft 0 0 l.fn.walk l.walk
