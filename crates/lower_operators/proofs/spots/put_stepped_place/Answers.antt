use Rattle.lower_relation.specs.Paths.{Stuck}
use Rattle.lower_nodes.proofs.Building.{surely_made}
use Rattle.lower_operators.proofs.spots.put_stepped_place.Goals as goal

pub returns-then-known-clause-made : goal.returns-then-known-clause-made
returns-then-known-clause-made c = rw c.if-known.true c.in_ok-i.ensures.made

pub returns-clause-made : goal.returns-clause-made
returns-clause-made c = rw c.if-known.false (surely_made (λ G. Stuck G) _ _ _ _ c.in_ok-i-2.ensures.made)
