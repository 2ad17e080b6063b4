use Rattle.std.proofs.Common.{◌≡◌, drop}
use Rattle.c_types_walk.specs.ItemWalk.{is_among}
use Rattle.c_types_walk.proofs.params.is_among.Given as goal

abbrev pub invariant-loop-param : goal.invariant-loop-param
invariant-loop-param l = is_among l.name (drop l.param-index l.params) ≡ is_among l.name l.params
