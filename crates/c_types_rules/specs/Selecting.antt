-- The operators that choose among their operands, and those that lead to places (C99 6.5.2, 6.5.3.2, 6.5.15, 6.5.17).
use Rattle.std.specs.Prelude.{ℕ, ◌&&◌, ◌||◌, if◌then◌else◌, List, [], ◌∷◌, Option, Some, None, Result, Ok, Err, slice_get}
use Rattle.std.specs.Str.{bytes_eq}
use Rattle.c_types_rules.specs.declared.layout.StructType.{StructType}
use Rattle.c_types_rules.specs.declared.layout.Member.{Member}
use Rattle.c_types_rules.specs.declared.operand.Operand.{Operand}
use Rattle.c_types_rules.specs.declared.fault.FaultKind.{FaultKind}
use Rattle.c_types_rules.specs.declared.fault.FaultKind.TheVariants as fault
use Rattle.c_types_rules.specs.TypeTree.{TypeTree, Void, Pointer, Struct}
use Rattle.c_types_rules.specs.Conversions.{is_void, is_pointer, is_void_pointer, is_struct, common_type, value_of, place_of, value_type}
use Rattle.c_types_rules.specs.Faults.{OperandOrFault, ◌>>=◌}
use Rattle.c_types_rules.specs.Assigning.{pointers_join}
use Rattle.c_types_rules.specs.Operators.{typed_sum, both_arithmetic, value_if_operands_fit, is_scalar_value}

-- the pointer that `? :` gives: the other one's type where one is a null constant, else `void *` where one has that type, else their one type
abbrev pub joined_pointer : Operand → Operand → TypeTree
joined_pointer x y =
    if x.null && is_pointer (value_type y) then value_type y
    else if y.null || is_void_pointer (value_type x) then value_type x
    else value_type y

-- Both are arithmetic, or both void, or pointers that join (C99 6.5.15).
abbrev pub typed_alternatives : Operand → Operand → OperandOrFault
typed_alternatives x y =
    if both_arithmetic (value_type x) (value_type y) then Ok (value_of (common_type (value_type x) (value_type y)))
    else if is_void (value_type x) && is_void (value_type y) then Ok (value_of Void)
    else value_if_operands_fit (pointers_join x y) (joined_pointer x y)

abbrev pub typed_conditional : Operand → Operand → Operand → OperandOrFault
typed_conditional condition x y = if is_scalar_value condition then typed_alternatives x y else Err fault.Operands

-- A comma expression has the value of its last operand (C99 6.5.17). A struct is used only by `.`, `&` and `sizeof`, so none is an operand.
abbrev pub typed_comma : TypeTree → List Operand → OperandOrFault
typed_comma t [] = Ok (value_of t)
typed_comma t (x ∷ xs) = if is_struct x.ctype then Err fault.Operands else typed_comma (value_type x) xs

-- what a pointer to other than void points to is a place
abbrev pub pointed_type : TypeTree → OperandOrFault
pointed_type (Pointer to) = if is_void to then Err fault.Operands else Ok (place_of to)
pointed_type t = Err fault.Operands

abbrev pub typed_indirection : Operand → OperandOrFault
typed_indirection x = pointed_type (value_type x)

-- the address of a place
abbrev pub typed_address : Operand → OperandOrFault
typed_address x = if x.place then Ok (value_of (Pointer x.ctype)) else Err fault.NoPlace

-- `e[i]` is `*(e + i)` (C99 6.5.2.1p2)
abbrev pub typed_subscript : List StructType → Operand → Operand → OperandOrFault
typed_subscript structs x y = typed_sum structs (value_type x) (value_type y) >>= typed_indirection

abbrev pub member_named : List ℕ → List Member → Option Member
member_named name [] = None
member_named name (m ∷ ms) = if bytes_eq m.name name then Some m else member_named name ms

abbrev pub known_member : Option Member → Result Member FaultKind
known_member None = Err fault.Unknown
known_member (Some m) = Ok m

abbrev pub member_in : List ℕ → Option StructType → Result Member FaultKind
member_in name None = Err fault.Unknown
member_in name (Some s) = known_member (member_named name s.members)

-- the member of a struct (C99 6.5.2.3)
abbrev pub member_of : List StructType → List ℕ → TypeTree → Result Member FaultKind
member_of structs name (Struct tag) = member_in name (slice_get structs tag)
member_of structs name t = Err fault.Operands

-- the member of the struct that a pointer points to
abbrev pub member_behind : List StructType → List ℕ → TypeTree → Result Member FaultKind
member_behind structs name (Pointer to) = member_of structs name to
member_behind structs name t = Err fault.Operands
