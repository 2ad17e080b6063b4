use Rattle.std.proofs.Common.{take}
use Rattle.std.specs.Prelude.{All}
use Rattle.affinity.specs.declared.neighbour.Neighbour.{Neighbour}
use Rattle.affinity.specs.Near.{StandsBefore}
use Rattle.affinity_reference.proofs.choosing.is_behind.Given as goal

abbrev pub invariant-loop-row : goal.invariant-loop-row
invariant-loop-row l = All (λ (n : Neighbour). StandsBefore n l.next) (take l.row-index l.rows)
