-- The operators of a chain, one after another.
use Rattle.std.specs.Prelude.{◌≡◌, ℕ, zero, suc, pos, Bool, true, false, List, [], ◌∷◌, Option}
use Rattle.cbi_base.specs.declared.scalar.Kind.TheVariants.{Int}
use Rattle.c_syntax.specs.ExprTree.{ExprTree}
use Rattle.c_syntax.specs.declared.expr.Link.{Link}
use Rattle.c_syntax.specs.declared.token.Sign.{Sign}
use Rattle.flow.specs.declared.node.Node.TheVariants as node
use Rattle.c_types_expressions.specs.ExprWalk.{binary_of}
use Rattle.c_meaning.specs.declared.value_type.ValueType.{ValueType}
use Rattle.c_meaning.specs.Words.{Facts, Sites, is_null_beside, joint_of_sign, operand_type, type_of}
use Rattle.lower_relation.specs.Expressions.{emitted_expression}
use Rattle.lower_relation.specs.Operators.{VisitedFork, Linked}
use Rattle.lower_relation.specs.Paths.{Graph, Path, Does, Either}
use Rattle.lower_relation.specs.Values.{NullOr}
use Rattle.lower_nodes.specs.Made.{GraphPath}

-- an operator with its right operand, where what stands before them has the type `left`
abbrev pub link_part : Facts → Sites → Option ValueType → ℕ → Sign → ExprTree → GraphPath ℕ
link_part facts sites left token sign operand G =
    Linked G facts sites (joint_of_sign sign) token left (operand_type (is_null_beside (binary_of sign) left operand) (type_of facts operand))
    (NullOr G (is_null_beside (binary_of sign) left operand) (emitted_expression G facts sites operand))

-- the type of what stands before the operator with this index, where the first operand has this one
abbrev pub type_before : Facts → Option ValueType → List Link → ℕ → Option ValueType
type_before facts left links zero = left
type_before facts left [] (suc j) = left
type_before facts left (x ∷ links) (suc j) = type_before facts (facts.type_at x.token) links j

-- where `&&` and `||` go on from their left sides: at the right one, or behind the whole
pub record Sides : Type 0 where
  pub right : ℕ
  pub next : ℕ

abbrev pub shortcut_sides : ℕ → ℕ → Sides
shortcut_sides right next = record { right = right; next = next }

abbrev pub side_ends : Sides → List ℕ
side_ends k = k.right ∷ k.next ∷ []

-- control is at the right side
abbrev pub ToRight : Path Sides
ToRight i k = i ≡ k.right

-- this is the value of the whole
abbrev pub WholeValue : Graph → ℕ → Path Sides
WholeValue G n i k = Does G (node.Push Int (pos n) 0) i k.next

-- what `&&`, or else `||`, does with its left value: a false one, or a true one, is the value of the whole, and with another one its right side follows
abbrev pub Shortcut : Graph → Facts → Sites → Bool → ℕ → Path Sides
Shortcut G facts sites true token = Either (VisitedFork G facts sites token) ToRight (WholeValue G 0)
Shortcut G facts sites false token = Either (VisitedFork G facts sites token) (WholeValue G 1) ToRight
