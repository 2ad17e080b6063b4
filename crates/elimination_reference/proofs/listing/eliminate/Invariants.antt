use Rattle.std.proofs.Common.{◌≤◌, ◌++◌, List, length}
use Rattle.elimination_tallies.specs.declared.listed.Listed.{Listed}
use Rattle.elimination.specs.Elimination.{IsElimination}
use Rattle.elimination_tallies.specs.Recount.{failing_runs}
use Rattle.elimination_reference.proofs.listing.eliminate.Given as goal

abbrev pub invariant-loop-row : goal.invariant-loop-row
invariant-loop-row l =
    (length l.left.items ≤ 100000)
    × ((rest : List Listed) → IsElimination l.branches l.fn.policy l.left.items rest → IsElimination l.branches l.fn.policy l.fn.runs.items (l.rows ++ rest))

abbrev pub decreases-loop-row : goal.decreases-loop-row
decreases-loop-row l = failing_runs l.left.items
