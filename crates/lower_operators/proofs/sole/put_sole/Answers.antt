use Rattle.std.proofs.Common.{refl}
use Rattle.flow.specs.declared.node.Node.TheVariants as node
use Rattle.lower_nodes.proofs.Building.{◌and_then◌, row}
use Rattle.lower_operators.proofs.sole.put_sole.Goals as goal

pub returns-clause-made : goal.returns-clause-made
returns-clause-made c =
    (rw c.type_at-want.ensures at c.in_ok-i.ensures.made) and_then row (node.Sole c.args.op 0) _ c.in_ok-sole.ensures.number c.in_ok-sole.ensures.added refl
