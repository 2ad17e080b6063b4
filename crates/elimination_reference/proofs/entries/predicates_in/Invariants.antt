use Rattle.std.proofs.Common.{◌≡◌, ◌+◌, ◌*◌, ◌≤◌, length}
use Rattle.elimination_tallies.specs.Predicates.{predicates_in}
use Rattle.elimination_reference.proofs.entries.predicates_in.Given as goal

abbrev pub invariant-loop-rest : goal.invariant-loop-rest
invariant-loop-rest l = (predicates_in l.branches ≡ l.count + predicates_in l.rest) × (l.count + 6 * length l.rest ≤ 6 * length l.branches)

abbrev pub decreases-loop-rest : goal.decreases-loop-rest
decreases-loop-rest l = length l.rest
