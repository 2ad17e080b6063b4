use Rattle.association.proofs.Ordered.{better-never-itself, better-or, better-through}
use Rattle.association.proofs.laws.order_is_strict_and_total.Goals as goal

pub returns : goal.returns
returns c = record { irreflexive = better-never-itself; transitive = better-through; total = better-or }
