-- Which rule operands break under an operator, and of which kind that is.
use Rattle.std.specs.Prelude.{◌≡◌, ◌⊎◌, ℕ, true, List, [], ◌∷◌, Option, Some, None}
use Rattle.cbi_base.specs.declared.operators.Binary.{Binary}
use Rattle.c_syntax.specs.declared.expr.PrefixOperator.{PrefixOperator}
use Rattle.c_syntax.specs.declared.expr.PrefixOperator.TheVariants as prefix
use Rattle.c_types_rules.specs.declared.fault.FaultKind.{FaultKind}
use Rattle.c_types_rules.specs.declared.fault.FaultKind.TheVariants as fault
use Rattle.c_types_rules.specs.declared.layout.StructType.{StructType}
use Rattle.c_types_rules.specs.declared.operand.Operand.{Operand}
use Rattle.c_types_rules.specs.Words.{TypeTree, Pointer, is_struct, value_of, value_type}
use Rattle.c_types_laws.specs.Operands.{Accepts, IsArithmetic, IsModifiable, Operates, PointsToObject, Prefixes, Selects}
use Rattle.c_types_faults.specs.Known.{Entity, Object, Function, Standard}
use Rattle.c_types_faults.specs.Least.{IsLeast}
use Rattle.c_types_faults.specs.Calls.{CallsAs, CallsStandard}

-- The operands don't fit: the operator gives no type.
abbrev pub Misfits : (TypeTree → Type 0) → FaultKind → Type 0
Misfits P kind = (kind ≡ fault.Operands) × ((t : TypeTree) → P t → ⊥)

-- what is changed is no modifiable lvalue (6.3.2.1p1, 6.5.2.4p1, 6.5.3.1p1, 6.5.16p2)
abbrev pub Unmodifiable : Operand → FaultKind → Type 0
Unmodifiable x kind = (kind ≡ fault.NoPlace) × (IsModifiable x → ⊥)

-- what an assignment stores may be assigned to the type of its left operand (6.5.16.1p1); a compound one stores what its operator gives (6.5.16.2)
abbrev pub Stores : List StructType → Option Binary → Operand → Operand → Type 0
Stores structs None x y = Accepts (value_type x) y
Stores structs (Some o) x y = (r : TypeTree) × (Operates structs o x y r × Accepts (value_type x) (value_of r))

abbrev pub AssignBreaks : List StructType → Option Binary → Operand → Operand → FaultKind → Type 0
AssignBreaks structs o x y kind = IsLeast (λ j. ((j ≡ fault.Operands) × (Stores structs o x y → ⊥)) ⊎ Unmodifiable x j) kind

-- 1 can be added to it (6.5.2.4p1, 6.5.3.1p1)
abbrev pub Counts : List StructType → Operand → Type 0
Counts structs x = IsArithmetic (value_type x) ⊎ PointsToObject structs (value_type x)

abbrev pub StepBreaks : List StructType → Operand → FaultKind → Type 0
StepBreaks structs x kind = IsLeast (λ j. ((j ≡ fault.Operands) × (Counts structs x → ⊥)) ⊎ Unmodifiable x j) kind

-- an operator before its operand (6.5.3); only of an lvalue there is an address (6.5.3.2p1)
abbrev pub PrefixBreaks : List StructType → PrefixOperator → Operand → FaultKind → Type 0
PrefixBreaks structs prefix.Increment x kind = StepBreaks structs x kind
PrefixBreaks structs prefix.Decrement x kind = StepBreaks structs x kind
PrefixBreaks structs prefix.Address x kind = (kind ≡ fault.NoPlace) × (x.place ≡ true → ⊥)
PrefixBreaks structs o x kind = Misfits (Prefixes structs o x) kind

-- No struct stands before the `.` (6.5.2.3p1), or it has no member of the name.
abbrev pub MemberBreaks : List StructType → List ℕ → TypeTree → FaultKind → Type 0
MemberBreaks structs name of kind = ((kind ≡ fault.Operands) × (is_struct of ≡ true → ⊥))
    ⊎ ((kind ≡ fault.Unknown) × (is_struct of ≡ true) × ((t : TypeTree) → Selects structs name of t → ⊥))

-- No pointer to a struct stands before the `->` (6.5.2.3p2), or the struct has no member of the name.
abbrev pub ArrowBreaks : List StructType → List ℕ → TypeTree → FaultKind → Type 0
ArrowBreaks structs name (Pointer to) kind = MemberBreaks structs name to kind
ArrowBreaks structs name of kind = kind ≡ fault.Operands

-- one of the operands of a comma is a struct, which is used only by `.`, `&` and `sizeof` (6.5.17, narrower)
abbrev pub HasStruct : List Operand → Type 0
HasStruct [] = ⊥
HasStruct (x ∷ xs) = (is_struct x.ctype ≡ true) ⊎ HasStruct xs

-- A name that isn't called denotes nothing (6.5.1p2), or a function, which is used only by a call (6.5.1p2, narrower).
abbrev pub NameBreaks : Option Entity → FaultKind → Type 0
NameBreaks None kind = kind ≡ fault.Unknown
NameBreaks (Some (Object of)) kind = ⊥
NameBreaks (Some (Function of)) kind = kind ≡ fault.Operands
NameBreaks (Some (Standard function)) kind = kind ≡ fault.Operands

-- A name that is called denotes nothing (6.5.1p2), or no function (6.5.2.2p1), or one that takes other arguments (6.5.2.2p2).
abbrev pub CallBreaks : Option Entity → List Operand → FaultKind → Type 0
CallBreaks None xs kind = kind ≡ fault.Unknown
CallBreaks (Some (Object of)) xs kind = kind ≡ fault.Operands
CallBreaks (Some (Function f)) xs kind = (kind ≡ fault.Arguments) × ((t : TypeTree) → CallsAs f xs t → ⊥)
CallBreaks (Some (Standard f)) xs kind = (kind ≡ fault.Arguments) × ((t : TypeTree) → CallsStandard f xs t → ⊥)
