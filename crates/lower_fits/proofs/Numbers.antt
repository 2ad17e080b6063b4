-- Numbers that nodes may name: constants, sizes, and those of what a text has.
use Rattle.std.proofs.Common.{◌≡◌, ℕ, ◌≤◌, pos, neg_ℤ, refl, arith, Some, None, Bool, true, false}
use Rattle.std.specs.Prelude.{◌&&◌, nat_le, int_le, if◌then◌else◌, IsTrue, Option}
use Rattle.std.proofs.lemmas.Bool.{and_from, and_parts, leb-true}
use Rattle.std.proofs.lemmas.Int.{ints}
use Rattle.cbi_base.specs.declared.operators.Binary.{Binary}
use Rattle.cbi_base.specs.declared.operators.Binary.TheVariants as op
use Rattle.cbi_base.specs.declared.scalar.Kind.{Kind}
use Rattle.cbi_base.specs.declared.scalar.Kind.TheVariants.{Char, Int, Unsigned}
use Rattle.cbi_base.specs.Kind.{lies_in}
use Rattle.flow.specs.Nodes as node
use Rattle.flow.specs.Nodes.{step_limit}
use Rattle.c_meaning.specs.declared.value_type.ValueType.{ValueType}
use Rattle.c_meaning.specs.declared.value_type.ValueType.TheVariants as type
use Rattle.c_meaning.specs.Words.{as_used, is_step_size, moves_left, moves_right, on_pointers, on_values, operation, order_of, order_operation}
use Rattle.c_meaning.specs.declared.operation.Operation.{Operation}
use Rattle.c_meaning.specs.declared.operation.Operation.TheVariants.{MoveLeft, MoveRight, Span, Wrong}
use Rattle.cbi_base.specs.declared.operators.Order.{Order}

-- 1 lies in the kind that `++` and `--` count in
pub one_lies : (kind : Kind) → IsTrue (lies_in kind (pos 1))
one_lies Char = refl
one_lies Int = refl
one_lies Unsigned = refl

-- a size is an `unsigned`
pub size_lies : (n : ℕ) → n ≤ step_limit → IsTrue (lies_in Unsigned (pos n))
size_lies n h = and_from (int_le (pos 0) (pos n)) (int_le (pos n) (pos 4294967295)) (grind (arith, ints)) (grind (arith, ints))

-- a size that is no zero, and not too great, moves to the right, and to the left
steps_right : (size : ℕ) → 1 ≤ size → size ≤ 1048576 → IsTrue (node.is_node_step (pos size))
steps_right size low high = grind (arith, ints)

-- and to the left
steps_left : (size : ℕ) → 1 ≤ size → size ≤ 1048576 → IsTrue (node.is_node_step (neg_ℤ (pos size)))
steps_left size low high = grind (arith, ints)

-- along elements of this size a pointer is moved to the right
pub right_step : (size : ℕ) → IsTrue (is_step_size size) → IsTrue (node.is_node_step (pos size))
right_step size h =
    let parts = and_parts (nat_le 1 size) (nat_le size 1048576) h in steps_right size (leb-true 1 size parts.0) (leb-true size 1048576 parts.1)

-- and to the left
pub left_step : (size : ℕ) → IsTrue (is_step_size size) → IsTrue (node.is_node_step (neg_ℤ (pos size)))
left_step size h =
    let parts = and_parts (nat_le 1 size) (nat_le size 1048576) h in steps_left size (leb-true 1 size parts.0) (leb-true size 1048576 parts.1)

-- what an operation moves by is a step
abbrev pub Steps : Operation → Type 0
Steps (MoveLeft size) = IsTrue (node.is_node_step size)
Steps (MoveRight size) = IsTrue (node.is_node_step size)
Steps (Span size) = IsTrue (nat_le 1 size && nat_le size step_limit)
Steps change = Unit {0}

-- where a size is no step, nothing moves
left_steps : (size : ℕ) (b : Bool) → is_step_size size ≡ b → Steps (if b then MoveLeft (pos size) else Wrong)
left_steps size true h = right_step size h
left_steps size false h = tt

-- the same to the left
back_steps : (size : ℕ) (b : Bool) → is_step_size size ≡ b → Steps (if b then MoveLeft (neg_ℤ (pos size)) else Wrong)
back_steps size true h = left_step size h
back_steps size false h = tt

-- the same where the number stands before the pointer
right_steps : (size : ℕ) (b : Bool) → is_step_size size ≡ b → Steps (if b then MoveRight (pos size) else Wrong)
right_steps size true h = right_step size h
right_steps size false h = tt

-- the same where two pointers are subtracted
span_steps : (size : ℕ) (b : Bool) → is_step_size size ≡ b → Steps (if b then Span size else Wrong)
span_steps size true h = h
span_steps size false h = tt

-- a comparison of pointers moves nothing
ordered_steps : (order : Option Order) → Steps (order_operation order)
ordered_steps None = tt
ordered_steps (Some order) = tt

-- a pointer and a number
moves_left_steps : (sign : Binary) (size : ℕ) → Steps (moves_left sign size)
moves_left_steps op.Add size = left_steps size (is_step_size size) refl
moves_left_steps op.Sub size = back_steps size (is_step_size size) refl
moves_left_steps sign size = tt

-- a number and a pointer
moves_right_steps : (sign : Binary) (size : ℕ) → Steps (moves_right sign size)
moves_right_steps op.Add size = right_steps size (is_step_size size) refl
moves_right_steps sign size = tt

-- two pointers
pointers_step : (sign : Binary) (size : ℕ) → Steps (on_pointers sign size)
pointers_step op.Sub size = span_steps size (is_step_size size) refl
pointers_step sign size = ordered_steps (order_of sign)

-- two values of any types
values_step : (sign : Binary) (left right : Option ValueType) → Steps (on_values sign left right)
values_step sign (Some (type.Number left)) (Some (type.Number right)) = tt
values_step sign (Some (type.Pointer size)) (Some (type.Number kind)) = moves_left_steps sign size
values_step sign (Some (type.Number kind)) (Some (type.Pointer size)) = moves_right_steps sign size
values_step sign (Some (type.Pointer size)) (Some (type.Pointer other)) = pointers_step sign size
values_step sign left right = tt

-- whatever the operands' types are, an operation moves by steps alone: by sizes that are none it is no operation
pub operation_steps : (sign : Binary) (left right : Option ValueType) → Steps (operation sign left right)
operation_steps sign left right = values_step sign (as_used left) (as_used right)
