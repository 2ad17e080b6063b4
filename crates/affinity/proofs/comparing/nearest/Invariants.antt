use Rattle.elimination_tallies.specs.Predicates.{predicates_in}
use Rattle.affinity.specs.Kept.{scores_by}
use Rattle.affinity.specs.Near.{AreFirst}
use Rattle.affinity.proofs.FallLemmas.{IsSeen}
use Rattle.affinity.proofs.comparing.nearest.Given as goal

abbrev pub invariant-loop-other : goal.invariant-loop-other
invariant-loop-other l = AreFirst 5 (IsSeen (predicates_in l.whole.branches) l.predicate (scores_by l.whole l.rest.all) (scores_by l.rest.numbers l.rest.failing) l.other) l.rows.items
