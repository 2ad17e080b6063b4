-- What a type is, and what it becomes where a value is used (C99 6.3).
use Rattle.std.specs.Prelude.{ℕ, ℤ, pos, Bool, true, false, ◌||◌, if◌then◌else◌}
use Rattle.std.specs.Ordering.{int_eq}
use Rattle.cbi_base.specs.declared.scalar.Kind.{Kind}
use Rattle.cbi_base.specs.declared.scalar.Kind.TheVariants as kind
use Rattle.c_types_rules.specs.declared.operand.Operand.{Operand}
use Rattle.c_types_rules.specs.TypeTree.{TypeTree, Void, Char, Int, Unsigned, Pointer, Array, Struct}

abbrev pub is_void : TypeTree → Bool
is_void Void = true
is_void t = false

abbrev pub is_unsigned : TypeTree → Bool
is_unsigned Unsigned = true
is_unsigned t = false

-- the arithmetic types of the language (C99 6.2.5p18)
abbrev pub is_arithmetic : TypeTree → Bool
is_arithmetic Char = true
is_arithmetic Int = true
is_arithmetic Unsigned = true
is_arithmetic t = false

abbrev pub is_pointer : TypeTree → Bool
is_pointer (Pointer to) = true
is_pointer t = false

abbrev pub is_void_pointer : TypeTree → Bool
is_void_pointer (Pointer to) = is_void to
is_void_pointer t = false

abbrev pub is_array : TypeTree → Bool
is_array (Array element length) = true
is_array t = false

abbrev pub is_struct : TypeTree → Bool
is_struct (Struct tag) = true
is_struct t = false

-- C99 6.2.5p21
abbrev pub is_scalar : TypeTree → Bool
is_scalar t = is_arithmetic t || is_pointer t

-- An array becomes a pointer to its first element (C99 6.3.2.1p3).
abbrev pub decayed_type : TypeTree → TypeTree
decayed_type (Array element length) = Pointer element
decayed_type t = t

-- `char` is promoted to `int` (C99 6.3.1.1p2)
abbrev pub promoted_type : TypeTree → TypeTree
promoted_type Char = Int
promoted_type t = t

-- the usual arithmetic conversions (C99 6.3.1.8): `unsigned` where one of the two is, else `int`
abbrev pub common_type : TypeTree → TypeTree → TypeTree
common_type a b = if is_unsigned a || is_unsigned b then Unsigned else Int

-- the type of a value of this kind
abbrev pub of_kind : Kind → TypeTree
of_kind kind.Char = Char
of_kind kind.Int = Int
of_kind kind.Unsigned = Unsigned

abbrev pub value_of : TypeTree → Operand
value_of t = record { ctype = t; place = false; null = false }

abbrev pub place_of : TypeTree → Operand
place_of t = record { ctype = t; place = true; null = false }

-- a constant, which is a null constant where it is 0 (C99 6.3.2.3p3)
abbrev pub constant_of : Kind → ℤ → Operand
constant_of k value = record { ctype = of_kind k; place = false; null = int_eq value (pos 0) }

-- the null constant NULL
abbrev pub null_of : Operand
null_of = record { ctype = Pointer Void; place = false; null = true }

-- a string with its closing zero (C99 6.4.5p5); here none is a place
abbrev pub string_of : ℕ → Operand
string_of size = value_of (Array Char size)

-- an operand in parentheses: the same, but no null constant
abbrev pub parenthesized_operand : Operand → Operand
parenthesized_operand x = record { ctype = x.ctype; place = x.place; null = false }

-- the type of the operand's value
abbrev pub value_type : Operand → TypeTree
value_type x = decayed_type x.ctype
