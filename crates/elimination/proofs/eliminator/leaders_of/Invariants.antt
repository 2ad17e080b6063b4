use Rattle.std.proofs.Common.{◌≡◌}
use Rattle.elimination_tallies.specs.Recount.{failing_runs}
use Rattle.elimination.proofs.EliminationLemmas.{IsListing}
use Rattle.elimination.proofs.eliminator.leaders_of.Given as goal

abbrev pub invariant-loop-row : goal.invariant-loop-row
invariant-loop-row g l =
    (l.eliminator.branches ≡ l.initial.eliminator.branches) × (l.eliminator.policy ≡ l.initial.eliminator.policy)
    × IsListing l.initial.eliminator.branches l.initial.eliminator.policy l.initial.eliminator.runs l.eliminator.runs l.rows l.initial.steps l.steps

abbrev pub decreases-loop-row : goal.decreases-loop-row
decreases-loop-row g l = failing_runs l.eliminator.runs
