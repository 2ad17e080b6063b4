use Rattle.std.proofs.Common.{◌≡◌, Some, refl, rules}
use Rattle.cbi_base.specs.declared.operators.Unary.TheVariants as unary
use Rattle.flow.specs.declared.node.Node.TheVariants as node
use Rattle.c_meaning.specs.declared.value_type.ValueType.TheVariants as type
use Rattle.lower_relation.specs.Values.{HandedOverAs}
use Rattle.lower_nodes.proofs.Building.{◌and_then◌, is_stuck, row}
use Rattle.lower_nodes.proofs.values.put_handed.Goals.{in_default-via-in-Some+in_default, in_default-via-in_default}
use Rattle.lower_nodes.proofs.values.put_handed.Goals as goal

pub returns-in_ok-i-in-Some-Pointer-clause-made : goal.returns-in_ok-i-in-Some-Pointer-clause-made
returns-in_ok-i-in-Some-Pointer-clause-made c =
    let is : c.args.want ≡ Some (type.Pointer c.in-Some-Pointer.field-0-0) = search rules in
    rw is
    (row (node.Dup 0) _ c.in_ok-i-in-Some-Pointer.ensures.number c.in_ok-i-in-Some-Pointer.ensures.added refl
    and_then row (node.Sole unary.Not 0) _ c.in_ok-test-in-Some-Pointer.ensures.number c.in_ok-test-in-Some-Pointer.ensures.added refl
    and_then row (node.Drop 0) _ c.in_ok-drop-in-Some-Pointer.ensures.number c.in_ok-drop-in-Some-Pointer.ensures.added refl)

pub returns-in_ok-i-in_default-clause-made : goal.returns-in_ok-i-in_default-clause-made
returns-in_ok-i-in_default-clause-made c =
    is_stuck (λ G. HandedOverAs G c.args.want) (λ G. elim c.in_default.branch [ in_default-via-in-Some+in_default w ↦ search rules | in_default-via-in_default w ↦ search rules ]) _ _ _ _
    c.in_ok-i-in_default.ensures.made
