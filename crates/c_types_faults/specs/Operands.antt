-- Operands of which a relation of types holds.
use Rattle.std.specs.Prelude.{◌≡◌, Bool, true, false, List, [], ◌∷◌}
use Rattle.c_syntax.specs.declared.expr.PrefixOperator.{PrefixOperator}
use Rattle.c_syntax.specs.declared.expr.PrefixOperator.TheVariants as prefix
use Rattle.c_types_rules.specs.declared.layout.StructType.{StructType}
use Rattle.c_types_rules.specs.declared.operand.Operand.{Operand}
use Rattle.c_types_rules.specs.Words.{TypeTree, is_struct, value_type}
use Rattle.c_types_laws.specs.Operands.{Prefixes}

-- a value of such a type
abbrev pub AsValue : (TypeTree → Type 0) → Operand → Type 0
AsValue P d = P d.ctype × (d.place ≡ false) × (d.null ≡ false)

-- an lvalue of such a type
abbrev pub AsPlace : (TypeTree → Type 0) → Operand → Type 0
AsPlace P d = P d.ctype × (d.place ≡ true) × (d.null ≡ false)

-- a member of such a type: an lvalue where the struct is one (6.5.2.3p3)
abbrev pub AsSelected : Bool → (TypeTree → Type 0) → Operand → Type 0
AsSelected lvalue P d = P d.ctype × (d.place ≡ lvalue) × (d.null ≡ false)

-- only `*` before an operand leads to an lvalue (6.5.3.2p4)
abbrev pub is_indirection : PrefixOperator → Bool
is_indirection prefix.Indirection = true
is_indirection o = false

abbrev pub AsPrefixed : List StructType → PrefixOperator → Operand → Operand → Type 0
AsPrefixed structs o x d = Prefixes structs o x d.ctype × (d.place ≡ is_indirection o) × (d.null ≡ false)

-- The operands of a comma are no structs, and it has the value of the last one (6.5.17p2): such a type has what follows a value of the first type.
abbrev pub Sequence : TypeTree → List Operand → TypeTree → Type 0
Sequence before [] t = t ≡ before
Sequence before (x ∷ xs) t = (is_struct x.ctype ≡ false) × Sequence (value_type x) xs t
