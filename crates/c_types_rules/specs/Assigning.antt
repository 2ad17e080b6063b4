-- What may be assigned, passed, returned or used as an initialiser (C99 6.5.16.1).
use Rattle.std.specs.Prelude.{Bool, false, not, ◌&&◌, ◌||◌, if◌then◌else◌, List, [], ◌∷◌, length, ◌==◌, Ok, Err}
use Rattle.c_types_rules.specs.declared.operand.Operand.{Operand}
use Rattle.c_types_rules.specs.declared.fault.FaultKind.TheVariants as fault
use Rattle.c_types_rules.specs.TypeTree.{TypeTree, same_type}
use Rattle.c_types_rules.specs.Conversions.{is_arithmetic, is_pointer, is_void_pointer, is_array, value_of, value_type}
use Rattle.c_types_rules.specs.Faults.{OperandOrFault}

-- two pointers of one type, or one of them a `void *`
abbrev pub pointers_meet : TypeTree → TypeTree → Bool
pointers_meet a b = is_pointer a && is_pointer b && (same_type a b || is_void_pointer a || is_void_pointer b)

-- two pointers that meet, or a pointer and a null constant
abbrev pub pointers_join : Operand → Operand → Bool
pointers_join x y = pointers_meet (value_type x) (value_type y) || (is_pointer (value_type x) && y.null) || (is_pointer (value_type y) && x.null)

-- Both are arithmetic; or the target is a pointer and the value a null constant; or both are pointers that meet.
abbrev pub is_assignable : TypeTree → Operand → Bool
is_assignable target x = (is_arithmetic target && is_arithmetic (value_type x)) || (is_pointer target && x.null) || pointers_meet target (value_type x)

-- a left side: a place that is no array (C99 6.3.2.1p1)
abbrev pub is_left_side : Operand → Bool
is_left_side x = x.place && not (is_array x.ctype)

-- the value of an assignment, which has the type of its left side
abbrev pub typed_simple_assignment : Operand → Operand → OperandOrFault
typed_simple_assignment target x =
    if is_assignable (value_type target) x
    then if is_left_side target then Ok (value_of (value_type target)) else Err fault.NoPlace
    else Err fault.Operands

-- the arguments, one for each parameter (C99 6.5.2.2p2)
abbrev pub fits_parameters : List TypeTree → List Operand → Bool
fits_parameters [] xs = length xs == 0
fits_parameters (t ∷ ts) [] = false
fits_parameters (t ∷ ts) (x ∷ xs) = is_assignable t x && fits_parameters ts xs
