use Rattle.std.proofs.Common.{length}
use Rattle.elimination_tallies.specs.Recount.{recount}
use Rattle.elimination_tallies.proofs.TotalLemmas.{IsSum}
use Rattle.elimination_reference.proofs.counting.recount.Given as goal

abbrev pub invariant-loop-rest : goal.invariant-loop-rest
invariant-loop-rest l = IsSum l.tally (recount l.branches l.rest l.fn.predicate) (recount l.branches l.runs l.fn.predicate)

abbrev pub decreases-loop-rest : goal.decreases-loop-rest
decreases-loop-rest l = length l.rest
