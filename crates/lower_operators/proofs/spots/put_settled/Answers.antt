use Rattle.lower_nodes.proofs.Building.{nothing_made}
use Rattle.lower_operators.proofs.spots.put_settled.Goals as goal

pub returns-then-known-clause-made : goal.returns-then-known-clause-made
returns-then-known-clause-made c = rw c.if-known.true c.in_ok-i.ensures.made

pub returns-clause-made : goal.returns-clause-made
returns-clause-made c = rw c.if-known.false (nothing_made _ _)
