use Rattle.elimination_tallies.specs.Predicates.{predicates_in}
use Rattle.affinity.specs.Falls.{scores_over}
use Rattle.affinity.proofs.FallLemmas.{IsSeen}
use Rattle.affinity_reference.specs.Choosing.{IsNext}
use Rattle.affinity_reference.proofs.choosing.next_behind.Given as goal

abbrev pub invariant-loop-other : goal.invariant-loop-other
invariant-loop-other l = IsNext (IsSeen (predicates_in l.branches) l.predicate (scores_over l.branches l.runs) (scores_over l.branches l.left) l.other) l.rows l.best
