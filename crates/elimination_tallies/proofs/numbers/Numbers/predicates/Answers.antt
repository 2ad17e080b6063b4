use Rattle.std.proofs.Common.{arith}
use Rattle.elimination_tallies.proofs.PredicateLemmas.{predicates-few}
use Rattle.elimination_tallies.proofs.numbers.Numbers.predicates.Goals as goal

pub overflow_cast-result : goal.overflow_cast-result
overflow_cast-result c = omega (arith, predicates-few c.self.inside.branches, c.self.invariant.few, c.self.invariant.as_many)
