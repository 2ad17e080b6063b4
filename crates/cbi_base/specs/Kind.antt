-- The ranges of the arithmetic types, as whole numbers (C99 6.2.5): `char` has 8 bits and a sign, `int` and `unsigned`
-- have 32 bits.
use Rattle.std.specs.Prelude.{ℕ, ◌^◌, Bool, ◌&&◌, ℤ, pos, neg_ℤ, ◌+ℤ◌, ◌-ℤ◌, int_le, IsTrue}
use Rattle.std.specs.Int.{int_rem_euclid}
use Rattle.cbi_base.specs.declared.scalar.Kind.{Kind}
use Rattle.cbi_base.specs.declared.scalar.Kind.TheVariants.{Char, Int, Unsigned}

abbrev pub least_of : Kind → ℤ
least_of Char = neg_ℤ (pos 128)
least_of Int = neg_ℤ (pos 2147483648)
least_of Unsigned = pos 0

abbrev pub greatest_of : Kind → ℤ
greatest_of Char = pos 127
greatest_of Int = pos 2147483647
greatest_of Unsigned = pos 4294967295

-- how many values a kind has
abbrev pub size_of : Kind → ℕ
size_of Char = 2 ^ 8
size_of Int = 2 ^ 32
size_of Unsigned = 2 ^ 32

abbrev pub lies_in : Kind → ℤ → Bool
lies_in kind value = int_le (least_of kind) value && int_le value (greatest_of kind)

-- the number lies in the kind's range
abbrev pub LiesIn : Kind → ℤ → Type 0
LiesIn kind value = IsTrue (lies_in kind value)

-- The number modulo the kind's size, taken into the kind's range (C99 6.3.1.3): the distance from the least value, modulo
-- the size, is counted on from the least value.
abbrev pub wrapped_value : Kind → ℤ → ℤ
wrapped_value kind value = least_of kind +ℤ int_rem_euclid (value -ℤ least_of kind) (pos (size_of kind))
