use Rattle.lower_relation.specs.Paths.{Stuck}
use Rattle.lower_nodes.proofs.Building.{surely_made}
use Rattle.lower_nodes.proofs.operators.put_variable.Goals as goal

pub returns-in_ok-i-in-None-clause-made : goal.returns-in_ok-i-in-None-clause-made
returns-in_ok-i-in-None-clause-made c = rw c.in-None.is (surely_made (λ G. Stuck G) _ _ _ _ c.in_ok-i-in-None.ensures.made)
