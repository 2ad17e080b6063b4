use Rattle.elimination_tallies.specs.Recount.{recount}
use Rattle.elimination_reference.specs.Best.{AreFractions, IsBest}
use Rattle.elimination_reference.proofs.leading.leader.Given as goal

abbrev pub invariant-loop-predicate : goal.invariant-loop-predicate
invariant-loop-predicate l = IsBest (recount l.branches l.runs) l.predicate l.failing l.best × AreFractions (recount l.branches l.runs) l.predicate l.failing
