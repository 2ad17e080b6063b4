use Rattle.std.proofs.Common.{refl, sym, ◌∙◌}
use Rattle.flow.specs.declared.node.Node.TheVariants as node
use Rattle.lower_nodes.proofs.Building.{◌and_then◌, row}
use Rattle.lower_nodes.proofs.purpose.put_discarded.Goals as goal

pub returns-clause-made : goal.returns-clause-made
returns-clause-made c =
    rw (sym c.is_struct.ensures ∙ c.if-is_struct.false)
    (c.in_ok-i.ensures.made and_then row (node.Drop 0) _ c.in_ok-drop.ensures.number c.in_ok-drop.ensures.added refl)
