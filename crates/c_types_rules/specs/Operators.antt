-- What each operator takes and gives (C99 6.5.3 to 6.5.15).
use Rattle.std.specs.Prelude.{Bool, false, ◌&&◌, ◌||◌, if◌then◌else◌, List, Ok, Err}
use Rattle.cbi_base.specs.declared.operators.Binary.{Binary}
use Rattle.cbi_base.specs.declared.operators.Binary.TheVariants as op
use Rattle.cbi_base.specs.declared.operators.Unary.{Unary}
use Rattle.cbi_base.specs.declared.operators.Unary.TheVariants as sole
use Rattle.c_types_rules.specs.declared.layout.StructType.{StructType}
use Rattle.c_types_rules.specs.declared.operand.Operand.{Operand}
use Rattle.c_types_rules.specs.declared.fault.FaultKind.TheVariants as fault
use Rattle.c_types_rules.specs.TypeTree.{TypeTree, Int, Unsigned, Pointer, same_type}
use Rattle.c_types_rules.specs.Conversions.{is_void, is_arithmetic, is_pointer, is_scalar, common_type, promoted_type, value_of, value_type}
use Rattle.c_types_rules.specs.Sizes.{is_complete}
use Rattle.c_types_rules.specs.Faults.{OperandOrFault, ◌>>=◌}
use Rattle.c_types_rules.specs.Assigning.{pointers_join, is_assignable, typed_simple_assignment, is_left_side}

-- a value of the type where the operands fit
abbrev pub value_if_operands_fit : Bool → TypeTree → OperandOrFault
value_if_operands_fit fits t = if fits then Ok (value_of t) else Err fault.Operands

abbrev pub both_arithmetic : TypeTree → TypeTree → Bool
both_arithmetic a b = is_arithmetic a && is_arithmetic b

-- a pointer that can be moved: to a complete type (C99 6.5.6p2)
abbrev pub is_movable : List StructType → TypeTree → Bool
is_movable structs (Pointer to) = is_complete structs to
is_movable structs t = false

-- two numbers, or a pointer and a number in either order (C99 6.5.6p2)
abbrev pub typed_sum : List StructType → TypeTree → TypeTree → OperandOrFault
typed_sum structs a b =
    if both_arithmetic a b then Ok (value_of (common_type a b))
    else if is_arithmetic b then value_if_operands_fit (is_movable structs a) a
    else value_if_operands_fit (is_arithmetic a && is_movable structs b) b

-- two numbers, a pointer and a number, or two pointers of one type (C99 6.5.6p3)
abbrev pub typed_difference : List StructType → TypeTree → TypeTree → OperandOrFault
typed_difference structs a b =
    if both_arithmetic a b then Ok (value_of (common_type a b))
    else if is_arithmetic b then value_if_operands_fit (is_movable structs a) a
    else value_if_operands_fit (is_movable structs a && same_type a b) Int

-- two numbers, or two pointers of one type (C99 6.5.8p2)
abbrev pub typed_relation : TypeTree → TypeTree → OperandOrFault
typed_relation a b = value_if_operands_fit (both_arithmetic a b || (is_pointer a && same_type a b)) Int

-- as for an order, or a pointer with a `void *` or a null constant (C99 6.5.9p2)
abbrev pub typed_equality : Operand → Operand → OperandOrFault
typed_equality x y = value_if_operands_fit (both_arithmetic (value_type x) (value_type y) || pointers_join x y) Int

abbrev pub typed_binary_operation : List StructType → Binary → Operand → Operand → OperandOrFault
typed_binary_operation structs op.Add x y = typed_sum structs (value_type x) (value_type y)
typed_binary_operation structs op.Sub x y = typed_difference structs (value_type x) (value_type y)
typed_binary_operation structs op.Shl x y = value_if_operands_fit (both_arithmetic (value_type x) (value_type y)) (promoted_type (value_type x))
typed_binary_operation structs op.Shr x y = value_if_operands_fit (both_arithmetic (value_type x) (value_type y)) (promoted_type (value_type x))
typed_binary_operation structs op.Lt x y = typed_relation (value_type x) (value_type y)
typed_binary_operation structs op.Le x y = typed_relation (value_type x) (value_type y)
typed_binary_operation structs op.Gt x y = typed_relation (value_type x) (value_type y)
typed_binary_operation structs op.Ge x y = typed_relation (value_type x) (value_type y)
typed_binary_operation structs op.Eq x y = typed_equality x y
typed_binary_operation structs op.Ne x y = typed_equality x y
typed_binary_operation structs o x y = value_if_operands_fit (both_arithmetic (value_type x) (value_type y)) (common_type (value_type x) (value_type y))

abbrev pub is_scalar_value : Operand → Bool
is_scalar_value x = is_scalar (value_type x)

-- `&&` and `||` (C99 6.5.13, 6.5.14)
abbrev pub joined_truths : Operand → Operand → OperandOrFault
joined_truths x y = value_if_operands_fit (is_scalar_value x && is_scalar_value y) Int

-- unary `+` and `-`, and `~` (C99 6.5.3.3)
abbrev pub typed_unary_arithmetic : Operand → OperandOrFault
typed_unary_arithmetic x = value_if_operands_fit (is_arithmetic (value_type x)) (promoted_type (value_type x))

abbrev pub typed_unary_operation : Unary → Operand → OperandOrFault
typed_unary_operation sole.Not x = value_if_operands_fit (is_scalar_value x) Int
typed_unary_operation o x = typed_unary_arithmetic x

-- `++` and `--`, before and behind (C99 6.5.2.4, 6.5.3.1)
abbrev pub typed_increment : List StructType → Operand → OperandOrFault
typed_increment structs x =
    if is_arithmetic (value_type x) || is_movable structs (value_type x)
    then if is_left_side x then Ok (value_of (value_type x)) else Err fault.NoPlace
    else Err fault.Operands

-- A compound assignment takes what its operator and the assignment take (C99 6.5.16.2).
abbrev pub typed_compound_assignment : List StructType → Binary → Operand → Operand → OperandOrFault
typed_compound_assignment structs o target x = typed_binary_operation structs o target x >>= typed_simple_assignment target

-- `sizeof` takes a complete type (C99 6.5.3.4)
abbrev pub typed_sizeof : List StructType → TypeTree → OperandOrFault
typed_sizeof structs t = value_if_operands_fit (is_complete structs t) Unsigned

-- to `void` from anything; arithmetic to arithmetic; a pointer to the same type, to and from `void *`; a null constant to a pointer (C99 6.5.4)
abbrev pub cast_to : TypeTree → Operand → OperandOrFault
cast_to t x = value_if_operands_fit (is_void t || is_assignable t x) t
