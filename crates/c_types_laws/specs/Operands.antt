-- What C99 6.5 asks of the operands of each operator, and which type it gives. An operand has a type, may be an lvalue (here `place`), and may be a null
-- pointer constant. A value's type is that of its operand, an array's that of a pointer to its first element (6.3.2.1p3). The only arithmetic types are
-- integers.
use Rattle.std.specs.Prelude.{◌≡◌, ◌⊎◌, ℕ, true, false, List, Option, Some, None, Ok}
use Rattle.cbi_base.specs.declared.operators.Binary.{Binary}
use Rattle.cbi_base.specs.declared.operators.Binary.TheVariants as op
use Rattle.c_syntax.specs.declared.expr.PrefixOperator.{PrefixOperator}
use Rattle.c_syntax.specs.declared.expr.PrefixOperator.TheVariants as prefix
use Rattle.c_types_rules.specs.declared.layout.Member.{Member}
use Rattle.c_types_rules.specs.declared.layout.StructType.{StructType}
use Rattle.c_types_rules.specs.declared.operand.Operand.{Operand}
use Rattle.c_types_rules.specs.Words.{TypeTree, Void, Int, Unsigned, Pointer, common_type, is_arithmetic, is_array, is_pointer, is_scalar, is_void}
use Rattle.c_types_rules.specs.Words.{is_void_pointer}
use Rattle.c_types_rules.specs.Words.{promoted_type, value_of, value_type, joined_pointer, member_of, is_complete}

abbrev pub IsArithmetic : TypeTree → Type 0
IsArithmetic t = is_arithmetic t ≡ true

abbrev pub AreArithmetic : TypeTree → TypeTree → Type 0
AreArithmetic a b = IsArithmetic a × IsArithmetic b

abbrev pub IsPointer : TypeTree → Type 0
IsPointer t = is_pointer t ≡ true

abbrev pub IsScalar : Operand → Type 0
IsScalar x = is_scalar (value_type x) ≡ true

-- a pointer to a complete object type
abbrev pub PointsToObject : List StructType → TypeTree → Type 0
PointsToObject structs (Pointer to) = is_complete structs to ≡ true
PointsToObject structs t = ⊥

-- both operands arithmetic, brought to a common type (6.3.1.8): multiplicative and bitwise operators (6.5.5p2, 6.5.10p2, 6.5.11p2, 6.5.12p2)
abbrev pub Calculates : TypeTree → TypeTree → TypeTree → Type 0
Calculates a b t = AreArithmetic a b × (t ≡ common_type a b)

-- both arithmetic, or one a pointer to an object and the other an integer (6.5.6p2)
abbrev pub Adds : List StructType → TypeTree → TypeTree → TypeTree → Type 0
Adds structs a b t =
    Calculates a b t ⊎ ((PointsToObject structs a × IsArithmetic b × (t ≡ a)) ⊎ (IsArithmetic a × PointsToObject structs b × (t ≡ b)))

-- both arithmetic, or a pointer to an object and an integer, or two pointers to objects of one type (6.5.6p3)
abbrev pub Subtracts : List StructType → TypeTree → TypeTree → TypeTree → Type 0
Subtracts structs a b t =
    Calculates a b t ⊎ ((PointsToObject structs a × IsArithmetic b × (t ≡ a)) ⊎ (PointsToObject structs a × (b ≡ a) × (t ≡ Int)))

-- both of integer type; the result has the promoted left operand's (6.5.7p2, p3)
abbrev pub Shifts : TypeTree → TypeTree → TypeTree → Type 0
Shifts a b t = AreArithmetic a b × (t ≡ promoted_type a)

-- both arithmetic, or pointers of one type (6.5.8p2)
abbrev pub Orders : TypeTree → TypeTree → TypeTree → Type 0
Orders a b t = (AreArithmetic a b ⊎ (IsPointer a × (b ≡ a))) × (t ≡ Int)

-- two pointers of one type, or one of them a pointer to void
abbrev pub PointersMeet : TypeTree → TypeTree → Type 0
PointersMeet a b = IsPointer a × IsPointer b × ((a ≡ b) ⊎ ((is_void_pointer a ≡ true) ⊎ (is_void_pointer b ≡ true)))

-- the same, or one operand a pointer and the other a null pointer constant
abbrev pub PointersJoin : Operand → Operand → Type 0
PointersJoin x y = PointersMeet (value_type x) (value_type y)
    ⊎ ((IsPointer (value_type x) × (y.null ≡ true)) ⊎ (IsPointer (value_type y) × (x.null ≡ true)))

-- both arithmetic, or pointers that may be compared (6.5.9p2)
abbrev pub Equates : Operand → Operand → TypeTree → Type 0
Equates x y t = (AreArithmetic (value_type x) (value_type y) ⊎ PointersJoin x y) × (t ≡ Int)

abbrev pub Operates : List StructType → Binary → Operand → Operand → TypeTree → Type 0
Operates structs op.Add x y t = Adds structs (value_type x) (value_type y) t
Operates structs op.Sub x y t = Subtracts structs (value_type x) (value_type y) t
Operates structs op.Shl x y t = Shifts (value_type x) (value_type y) t
Operates structs op.Shr x y t = Shifts (value_type x) (value_type y) t
Operates structs op.Lt x y t = Orders (value_type x) (value_type y) t
Operates structs op.Le x y t = Orders (value_type x) (value_type y) t
Operates structs op.Gt x y t = Orders (value_type x) (value_type y) t
Operates structs op.Ge x y t = Orders (value_type x) (value_type y) t
Operates structs op.Eq x y t = Equates x y t
Operates structs op.Ne x y t = Equates x y t
Operates structs op.Mul x y t = Calculates (value_type x) (value_type y) t
Operates structs op.Div x y t = Calculates (value_type x) (value_type y) t
Operates structs op.Rem x y t = Calculates (value_type x) (value_type y) t
Operates structs op.And x y t = Calculates (value_type x) (value_type y) t
Operates structs op.Or x y t = Calculates (value_type x) (value_type y) t
Operates structs op.Xor x y t = Calculates (value_type x) (value_type y) t

-- an operator of a chain: `&&` and `||` take scalars (6.5.13p2, 6.5.14p2)
abbrev pub Joins : List StructType → Option Binary → Operand → Operand → TypeTree → Type 0
Joins structs None x y t = IsScalar x × IsScalar y × (t ≡ Int)
Joins structs (Some o) x y t = Operates structs o x y t

-- what may be assigned to a type: both arithmetic; or a null pointer constant to a pointer; or two pointers of one type or one to void (6.5.16.1p1)
abbrev pub Accepts : TypeTree → Operand → Type 0
Accepts target x = AreArithmetic target (value_type x) ⊎ ((IsPointer target × (x.null ≡ true)) ⊎ PointersMeet target (value_type x))

-- a modifiable lvalue: no array (6.3.2.1p1; no type is qualified, and no struct assigned)
abbrev pub IsModifiable : Operand → Type 0
IsModifiable x = (x.place ≡ true) × (is_array x.ctype ≡ false)

-- the left operand of an assignment is a modifiable lvalue, whose type the assignment has (6.5.16p2, p3); a compound one takes what its operator takes
-- (6.5.16.2)
abbrev pub Assigns : List StructType → Option Binary → Operand → Operand → TypeTree → Type 0
Assigns structs None target x t = IsModifiable target × Accepts (value_type target) x × (t ≡ value_type target)
Assigns structs (Some o) target x t =
    IsModifiable target × ((r : TypeTree) × (Operates structs o target x r × Accepts (value_type target) (value_of r))) × (t ≡ value_type target)

-- `++` and `--`: a modifiable lvalue that is arithmetic or a pointer to an object (6.5.2.4p1, 6.5.3.1p1)
abbrev pub Steps : List StructType → Operand → TypeTree → Type 0
Steps structs x t = IsModifiable x × (IsArithmetic (value_type x) ⊎ PointsToObject structs (value_type x)) × (t ≡ value_type x)

-- what a pointer to an object points to (6.5.3.2p2, p4)
abbrev pub LeadsToObject : TypeTree → TypeTree → Type 0
LeadsToObject a t = (a ≡ Pointer t) × (is_void t ≡ false)

-- an operator before its operand (6.5.3)
abbrev pub Prefixes : List StructType → PrefixOperator → Operand → TypeTree → Type 0
Prefixes structs prefix.Increment x t = Steps structs x t
Prefixes structs prefix.Decrement x t = Steps structs x t
Prefixes structs prefix.SizeOf x t = (is_complete structs x.ctype ≡ true) × (t ≡ Unsigned)
Prefixes structs prefix.Address x t = (x.place ≡ true) × (t ≡ Pointer x.ctype)
Prefixes structs prefix.Indirection x t = LeadsToObject (value_type x) t
Prefixes structs prefix.Plus x t = IsArithmetic (value_type x) × (t ≡ promoted_type (value_type x))
Prefixes structs prefix.Minus x t = IsArithmetic (value_type x) × (t ≡ promoted_type (value_type x))
Prefixes structs prefix.Complement x t = IsArithmetic (value_type x) × (t ≡ promoted_type (value_type x))
Prefixes structs prefix.Not x t = IsScalar x × (t ≡ Int)

-- a cast to void takes anything, another one what could be assigned to its type (6.5.4p2, narrower)
abbrev pub Casts : TypeTree → Operand → TypeTree → Type 0
Casts to x t = ((is_void to ≡ true) ⊎ Accepts to x) × (t ≡ to)

-- the first operand a scalar; the others arithmetic, void, or pointers that may be compared (6.5.15p2, p3)
abbrev pub Chooses : Operand → Operand → Operand → TypeTree → Type 0
Chooses c x y t = IsScalar c × (Calculates (value_type x) (value_type y) t
    ⊎ (((is_void (value_type x) ≡ true) × (is_void (value_type y) ≡ true) × (t ≡ Void)) ⊎ (PointersJoin x y × (t ≡ joined_pointer x y))))

-- `e[i]` is `*(e + i)` (6.5.2.1p2)
abbrev pub Indexes : List StructType → Operand → Operand → TypeTree → Type 0
Indexes structs x y t = (p : TypeTree) × (Adds structs (value_type x) (value_type y) p × LeadsToObject p t)

-- a struct with a member of the name, which has this type (6.5.2.3p1)
abbrev pub Selects : List StructType → List ℕ → TypeTree → TypeTree → Type 0
Selects structs name of t = (m : Member) × ((member_of structs name of ≡ Ok m) × (t ≡ m.ctype))

-- a pointer to such a struct (6.5.2.3p2)
abbrev pub SelectsBehind : List StructType → List ℕ → TypeTree → TypeTree → Type 0
SelectsBehind structs name (Pointer to) t = Selects structs name to t
SelectsBehind structs name of t = ⊥
