use Rattle.std.proofs.Common.{refl}
use Rattle.flow.specs.declared.node.Node.TheVariants as node
use Rattle.lower_relation.specs.Paths.{Stuck}
use Rattle.lower_nodes.proofs.Building.{◌and_then◌, row, surely_made}
use Rattle.lower_nodes.proofs.values.put_conversion_below.Goals as goal

pub returns-in_ok-i-in-To-clause-made : goal.returns-in_ok-i-in-To-clause-made
returns-in_ok-i-in-To-clause-made c =
    rw c.in-To.is (row (node.Swap 0) _ c.in_ok-i-in-To.ensures.number c.in_ok-i-in-To.ensures.added refl
    and_then row (node.Convert c.in-To.kind 0) _ c.in_ok-converted-in-To.ensures.number c.in_ok-converted-in-To.ensures.added refl
    and_then row (node.Swap 0) _ c.in_ok-back-in-To.ensures.number c.in_ok-back-in-To.ensures.added refl)

pub returns-in_ok-i-in-Misfit-clause-made : goal.returns-in_ok-i-in-Misfit-clause-made
returns-in_ok-i-in-Misfit-clause-made c = rw c.in-Misfit.is (surely_made (λ G. Stuck G) _ _ _ _ c.in_ok-i-in-Misfit.ensures.made)
