use Rattle.std.proofs.Common.{◌≡◌, take}
use Rattle.c_types_walk.specs.ItemWalk.{types_of}
use Rattle.c_types_walk.proofs.params.types_of.Given as goal

abbrev pub invariant-loop-param : goal.invariant-loop-param
invariant-loop-param l = l.types ≡ types_of (take l.param-index l.params)
