-- The offset of a member: the cells of the members before it, in the struct that its operand's type says (C99 6.5.2.3, 6.7.2.1p13).
use Rattle.std.specs.Prelude.{◌≡◌, ℕ, ◌+◌, Bool, true, false, if◌then◌else◌, List, [], ◌∷◌, Option, Some, None, option_and_then, option_map, slice_get}
use Rattle.std.specs.Str.{bytes_eq}
use Rattle.c_types_rules.specs.declared.layout.Member.{Member}
use Rattle.c_types_rules.specs.declared.layout.StructType.{StructType}
use Rattle.c_types_rules.specs.Words.{TypeTree, Pointer, Array, Struct, cells_of}
use Rattle.c_types_expressions.specs.declared.walk.Walk.{Walk}
use Rattle.c_types.specs.Answers.{offset_at, type_at}
use Rattle.c_types_faults.specs.Events.{Construct, Selects}

-- the number of the struct
abbrev pub struct_in : TypeTree → Option ℕ
struct_in (Struct number) = Some number
struct_in t = None

-- of the struct that `.` takes, or that a pointer leads to; an array is one to its first element (C99 6.3.2.1p3)
abbrev pub struct_of : Bool → TypeTree → Option ℕ
struct_of false t = struct_in t
struct_of true (Pointer to) = struct_in to
struct_of true (Array element size) = struct_in element
struct_of true t = None

-- the cells of the members before the one with the name, if there is one
abbrev pub cells_before : List StructType → List ℕ → List Member → Option ℕ
cells_before structs name [] = None
cells_before structs name (m ∷ ms) =
    if bytes_eq m.name name then Some 0 else option_map (λ n. cells_of structs m.ctype + n) (cells_before structs name ms)

abbrev pub cells_in : List StructType → List ℕ → Option StructType → Option ℕ
cells_in structs name None = None
cells_in structs name (Some s) = cells_before structs name s.members

-- those before the member that is selected of what has its own token there
abbrev pub offset_of : Walk → ℕ → Bool → List ℕ → Option ℕ
offset_of w operand behind name =
    option_and_then (λ number. cells_in w.structs name (slice_get w.structs number)) (option_and_then (struct_of behind) (type_at w operand))

-- what is noted at a token, where this expression has it for its own, if any has
abbrev pub HasOffset : Walk → ℕ → Option Construct → Type 0
HasOffset w token (Some (Selects operand behind name)) = (cells : ℕ) × ((offset_of w operand behind name ≡ Some cells) × (offset_at w token ≡ Some cells))
HasOffset w token construct = offset_at w token ≡ None
