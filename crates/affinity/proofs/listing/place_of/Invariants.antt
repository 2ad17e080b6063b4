use Rattle.std.proofs.Common.{◌≤◌, take}
use Rattle.std.specs.Prelude.{All}
use Rattle.affinity.specs.declared.neighbour.Neighbour.{Neighbour}
use Rattle.affinity.proofs.listing.place_of.Given as goal

abbrev pub invariant-loop-place : goal.invariant-loop-place
invariant-loop-place l = All (λ (n : Neighbour). l.fall ≤ n.fall) (take l.place l.rows)
