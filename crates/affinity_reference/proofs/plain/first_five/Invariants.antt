use Rattle.std.proofs.Common.{◌≡◌, length}
use Rattle.elimination_tallies.specs.Predicates.{predicates_in}
use Rattle.affinity.specs.Falls.{scores_over}
use Rattle.affinity.specs.Near.{AreFirst, IsNeighbour}
use Rattle.affinity_reference.proofs.plain.first_five.Given as goal

abbrev pub invariant-loop-place : goal.invariant-loop-place
invariant-loop-place l =
    AreFirst l._place (IsNeighbour (predicates_in l.branches) l.predicate (scores_over l.branches l.runs) (scores_over l.branches l.left)) l.rows.items × (length l.rows.items ≡ l._place)
