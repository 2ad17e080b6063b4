use Rattle.lower_relation.specs.Paths.{Stuck}
use Rattle.lower_nodes.proofs.Building.{surely_made}
use Rattle.lower_nodes.proofs.values.put_conversion.Goals as goal

pub returns-in_ok-i-in-Misfit-clause-made : goal.returns-in_ok-i-in-Misfit-clause-made
returns-in_ok-i-in-Misfit-clause-made c = rw c.in-Misfit.is (surely_made (λ G. Stuck G) _ _ _ _ c.in_ok-i-in-Misfit.ensures.made)
