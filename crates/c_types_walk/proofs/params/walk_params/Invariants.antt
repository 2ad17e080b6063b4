use Rattle.std.proofs.Common.{◌≡◌, ◌+◌, [], drop, length}
use Rattle.c_types_expressions.specs.Room.{HasRoomLeft}
use Rattle.c_types_walk.specs.ItemWalk.{walk_params}
use Rattle.c_types_walk.proofs.params.walk_params.Given as goal

abbrev pub invariant-loop-param : goal.invariant-loop-param
invariant-loop-param l =
    (walk_params l.body (drop l.param-index l.params) l.done l.walk ≡ walk_params l.body l.params [] l.fn.walk)
    × (length l.done + length (drop l.param-index l.params) ≡ length l.params)
    × HasRoomLeft 0 0 l.fn.walk l.walk
