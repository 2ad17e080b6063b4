use Rattle.std.proofs.Common.{◌≡◌, ◌++◌, map, drop}
use Rattle.c_syntax.specs.Plain.{plain_start}
use Rattle.sites.specs.Bodies.{starts_spots}
use Rattle.sites.proofs.statements.push_starts.Given as goal

-- with what is left to be added it is what the whole list comes to
abbrev pub invariant-loop-start : goal.invariant-loop-start
invariant-loop-start l = l.spots ++ starts_spots (map plain_start (drop l.start-index l.starts)) ≡ l.fn.spots ++ starts_spots (map plain_start l.starts)
