use Rattle.std.proofs.Common.{refl}
use Rattle.cbi_base.specs.declared.operators.Unary.TheVariants as unary
use Rattle.flow.specs.declared.node.Node.TheVariants as node
use Rattle.lower_nodes.proofs.Building.{◌and_then◌, row}
use Rattle.lower_nodes.proofs.arms.put_flagged.Goals as goal

pub returns-clause-made : goal.returns-clause-made
returns-clause-made c =
    row (node.Sole unary.Not 0) _ c.in_ok-i.ensures.number c.in_ok-i.ensures.added refl
    and_then row (node.Sole unary.Not 0) _ c.in_ok-second.ensures.number c.in_ok-second.ensures.added refl
