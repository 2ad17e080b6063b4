use Rattle.std.proofs.Common.{◌≡◌, drop, length}
use Rattle.c_types_expressions.specs.Room.{HasRoomLeft}
use Rattle.c_types_walk.specs.ItemWalk.{with_params}
use Rattle.c_types_walk.proofs.params.add_params.Given as goal

abbrev pub invariant-loop-param : goal.invariant-loop-param
invariant-loop-param l =
    (with_params (drop l.param-index l.params) l.walk ≡ with_params l.params l.fn.walk)
    × HasRoomLeft (length l.params) (length (drop l.param-index l.params)) l.fn.walk l.walk
