use Rattle.std.proofs.Common.{◌≡◌, ◌++◌, length}
use Rattle.compound.specs.Listing.{candidate_predicates}
use Rattle.compound.proofs.scanning.predicates_of.Given as goal

abbrev pub invariant-loop-rest : goal.invariant-loop-rest
invariant-loop-rest l = l.predicates.items ++ candidate_predicates l.rest ≡ candidate_predicates l.candidates

abbrev pub decreases-loop-rest : goal.decreases-loop-rest
decreases-loop-rest l = length l.rest
