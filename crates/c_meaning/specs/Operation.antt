-- The operators on two values: what each does, by the types of its operands (C99 6.5.5 to 6.5.12).
use Rattle.std.specs.Prelude.{ℕ, ℤ, pos, neg_ℤ, nat_le, Bool, true, false, ◌&&◌, if◌then◌else◌, Option, Some, None, Result, Ok, Err}
use Rattle.cbi_base.specs.declared.scalar.Kind.{Kind}
use Rattle.cbi_base.specs.declared.scalar.Kind.TheVariants.{Int}
use Rattle.cbi_base.specs.declared.scalar.Scalar.{Scalar}
use Rattle.cbi_base.specs.declared.scalar.Scalar.TheVariants.{Number}
use Rattle.cbi_base.specs.declared.operators.Binary.{Binary}
use Rattle.cbi_base.specs.declared.operators.Binary.TheVariants as op
use Rattle.cbi_base.specs.declared.operators.Order.{Order}
use Rattle.cbi_base.specs.declared.operators.Order.TheVariants as order
use Rattle.cbi_base.specs.declared.trap.Trap.{Trap}
use Rattle.cbi_base.specs.declared.trap.Trap.TheVariants.{Internal}
use Rattle.cbi_base.specs.Words.{truth_number, kind_given, Objects, pointer_comparison, pointer_difference, moved_by, operator_applied}
use Rattle.cbi_base.specs.Objects.{◌>>=◌}
use Rattle.c_types_rules.specs.Laws.{common_kind, promoted_kind}
use Rattle.c_meaning.specs.declared.operation.Operation.{Operation}
use Rattle.c_meaning.specs.declared.operation.Operation.TheVariants.{Numbers, MoveLeft, MoveRight, Span, Ordered, Wrong}
use Rattle.c_meaning.specs.declared.value_type.ValueType.{ValueType}
use Rattle.c_meaning.specs.declared.value_type.ValueType.TheVariants as type
use Rattle.c_meaning.specs.Conversions.{as_used, kind_conversion, conversion_result}

abbrev pub is_shift : Binary → Bool
is_shift op.Shl = true
is_shift op.Shr = true
is_shift o = false

-- The operands of a shift are promoted each for itself (C99 6.5.7p3); those of any other operator get their common type.
abbrev pub left_kind : Binary → Kind → Kind → Kind
left_kind o left right = if is_shift o then promoted_kind left else common_kind left right

abbrev pub right_kind : Binary → Kind → Kind → Kind
right_kind o left right = if is_shift o then promoted_kind right else common_kind left right

-- how many cells an element has, where a pointer can be moved along elements
abbrev pub is_step_size : ℕ → Bool
is_step_size size = nat_le 1 size && nat_le size 1048576

-- a pointer and a number (C99 6.5.6p8)
abbrev pub moves_left : Binary → ℕ → Operation
moves_left op.Add size = if is_step_size size then MoveLeft (pos size) else Wrong
moves_left op.Sub size = if is_step_size size then MoveLeft (neg_ℤ (pos size)) else Wrong
moves_left o size = Wrong

-- a number and a pointer
abbrev pub moves_right : Binary → ℕ → Operation
moves_right op.Add size = if is_step_size size then MoveRight (pos size) else Wrong
moves_right o size = Wrong

abbrev pub order_of : Binary → Option Order
order_of op.Lt = Some order.Lt
order_of op.Le = Some order.Le
order_of op.Gt = Some order.Gt
order_of op.Ge = Some order.Ge
order_of op.Eq = Some order.Eq
order_of op.Ne = Some order.Ne
order_of o = None

abbrev pub order_operation : Option Order → Operation
order_operation None = Wrong
order_operation (Some o) = Ordered o

-- two pointers (C99 6.5.6p9, 6.5.8p5, 6.5.9p6)
abbrev pub on_pointers : Binary → ℕ → Operation
on_pointers op.Sub size = if is_step_size size then Span size else Wrong
on_pointers o size = order_operation (order_of o)

abbrev pub on_values : Binary → Option ValueType → Option ValueType → Operation
on_values o (Some (type.Number left)) (Some (type.Number right)) = Numbers o left right
on_values o (Some (type.Pointer size)) (Some (type.Number kind)) = moves_left o size
on_values o (Some (type.Number kind)) (Some (type.Pointer size)) = moves_right o size
on_values o (Some (type.Pointer size)) (Some (type.Pointer other)) = on_pointers o size
on_values o left right = Wrong

abbrev pub operation : Binary → Option ValueType → Option ValueType → Operation
operation o left right = on_values o (as_used left) (as_used right)

abbrev pub flag_value : Bool → Scalar
flag_value holds = Number Int (truth_number holds)

abbrev pub flagged_value : Result Bool Trap → Result Scalar Trap
flagged_value (Ok holds) = Ok (flag_value holds)
flagged_value (Err t) = Err t

abbrev pub counted_value : Result ℤ Trap → Result Scalar Trap
counted_value (Ok count) = Ok (Number Int count)
counted_value (Err t) = Err t

-- Both operands are there: they are converted, and then calculated with.
unfoldable pub operation_result : Operation → Scalar → Scalar → Objects → Result Scalar Trap
operation_result (Numbers o left right) x y objects =
    conversion_result (kind_conversion left (left_kind o left right)) x >>= λ a. conversion_result
    (kind_conversion right (right_kind o left right)) y >>= λ b. operator_applied o a b
operation_result (MoveLeft size) x y objects = moved_by size x y objects
operation_result (MoveRight size) x y objects = moved_by size y x objects
operation_result (Span size) x y objects = counted_value (pointer_difference x y size objects)
operation_result (Ordered o) x y objects = flagged_value (pointer_comparison o x y objects)
operation_result Wrong x y objects = Err Internal

-- the type of what an operation gives, with that of the pointer that it moves
abbrev pub type_given : Operation → Option ValueType → Option ValueType
type_given (Numbers o left right) moved = Some (type.Number (kind_given o (left_kind o left right)))
type_given (MoveLeft size) moved = moved
type_given (MoveRight size) moved = moved
type_given (Span size) moved = Some (type.Number Int)
type_given (Ordered o) moved = Some (type.Number Int)
type_given Wrong moved = None
