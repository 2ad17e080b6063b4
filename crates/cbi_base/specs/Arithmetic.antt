-- What an operation gives of two numbers of one kind, as whole numbers, or the trap that stops the run (C99 6.5.5 to
-- 6.5.14).
use Rattle.std.specs.Prelude.{ℕ, ◌^◌, ◌-◌, ◌%◌, Bool, not, ◌&&◌, if◌then◌else◌, ℤ, pos, negsuc, ◌+ℤ◌, ◌-ℤ◌, ◌*ℤ◌, int_lt, int_le, int_div, int_rem}
use Rattle.std.specs.Prelude.{unsigned_abs, bit_and, bit_or, bit_xor, Result, Ok, Err}
use Rattle.std.specs.Int.{int_rem_euclid, int_div_euclid}
use Rattle.std.specs.Ordering.{int_eq}
use Rattle.cbi_base.specs.declared.scalar.Kind.{Kind}
use Rattle.cbi_base.specs.declared.scalar.Kind.TheVariants.{Int, Unsigned}
use Rattle.cbi_base.specs.declared.operators.Binary.{Binary}
use Rattle.cbi_base.specs.declared.operators.Binary.TheVariants.{Add, Sub, Mul, Div, Rem, Shl, Shr, And, Or, Xor, Lt, Le, Gt, Ge, Eq, Ne}
use Rattle.cbi_base.specs.declared.trap.Trap.{Trap}
use Rattle.cbi_base.specs.declared.trap.Trap.TheVariants.{Overflow, Divide, Shift}
use Rattle.cbi_base.specs.Kind.{lies_in, wrapped_value}

-- An exact result in a kind: `unsigned` wraps (C99 6.2.5p9); out of the range of `int` is a trap, where C99 6.5p5 leaves
-- the behaviour undefined.
abbrev pub fitted_value : Kind → ℤ → Result ℤ Trap
fitted_value Unsigned exact = Ok (wrapped_value Unsigned exact)
fitted_value kind exact = if lies_in kind exact then Ok exact else Err Overflow

abbrev pub is_zero : ℤ → Bool
is_zero value = int_eq value (pos 0)

-- the quotient without its fraction, so truncated towards zero (C99 6.5.5p6)
abbrev pub quotient : Kind → ℤ → ℤ → Result ℤ Trap
quotient kind left right = if is_zero right then Err Divide else fitted_value kind (int_div left right)

-- what that quotient leaves over, with the dividend's sign, where the kind holds the quotient (C99 6.5.5p6)
abbrev pub remainder : Kind → ℤ → ℤ → Result ℤ Trap
remainder kind left right =
    if is_zero right
    then Err Divide
    else (if lies_in kind (int_div left right) then Ok (int_rem left right) else Err Overflow)

-- a count of bits is from 0 to 31 (C99 6.5.7p3)
abbrev pub is_count : ℤ → Bool
is_count count = int_le (pos 0) count && int_le count (pos 31)

abbrev pub two_to : ℤ → ℤ
two_to count = pos (2 ^ unsigned_abs count)

-- The number times 2 to the count (C99 6.5.7p4): `unsigned` wraps; for `int` a negative number and a result out of range
-- are traps, where the standard leaves the behaviour undefined.
abbrev pub left_shift : Kind → ℤ → ℤ → Result ℤ Trap
left_shift Unsigned left count = if is_count count then Ok (wrapped_value Unsigned (left *ℤ two_to count)) else Err Shift
left_shift kind left count =
    if is_count count && (int_le (pos 0) left && lies_in kind (left *ℤ two_to count))
    then Ok (left *ℤ two_to count)
    else Err Shift

-- the number over 2 to the count, rounded down (C99 6.5.7p5; for a negative number the standard leaves it open)
abbrev pub right_shift : ℤ → ℤ → Result ℤ Trap
right_shift left count = if is_count count then Ok (int_div_euclid left (two_to count)) else Err Shift

-- the 32 bits of a number in two's complement: the number modulo 2 to the 32 (C99 6.2.6.2)
abbrev pub bits_of : ℤ → ℕ
bits_of value = unsigned_abs (int_rem_euclid value (pos (2 ^ 32)))

-- `&`, `^` and `|` go bit by bit (C99 6.5.10 to 6.5.12)
abbrev pub bitwise_value : (ℕ → ℕ → ℕ) → Kind → ℤ → ℤ → ℤ
bitwise_value by kind left right = wrapped_value kind (pos (by (bits_of left) (bits_of right)))

-- each bit is turned round (C99 6.5.3.3p4)
abbrev pub complement : Kind → ℤ → ℤ
complement kind value = wrapped_value kind (pos (2 ^ 32 - 1 - bits_of value))

-- what a comparison and `!` give: 1 where it holds, else 0
abbrev pub truth_number : Bool → ℤ
truth_number holds = if holds then pos 1 else pos 0

-- the value of an operation on two numbers of this kind (for a shift, the count may have another)
abbrev pub binary_value : Binary → Kind → ℤ → ℤ → Result ℤ Trap
binary_value Add kind left right = fitted_value kind (left +ℤ right)
binary_value Sub kind left right = fitted_value kind (left -ℤ right)
binary_value Mul kind left right = fitted_value kind (left *ℤ right)
binary_value Div kind left right = quotient kind left right
binary_value Rem kind left right = remainder kind left right
binary_value Shl kind left right = left_shift kind left right
binary_value Shr kind left right = right_shift left right
binary_value And kind left right = Ok (bitwise_value bit_and kind left right)
binary_value Or kind left right = Ok (bitwise_value bit_or kind left right)
binary_value Xor kind left right = Ok (bitwise_value bit_xor kind left right)
binary_value Lt kind left right = Ok (truth_number (int_lt left right))
binary_value Le kind left right = Ok (truth_number (int_le left right))
binary_value Gt kind left right = Ok (truth_number (int_lt right left))
binary_value Ge kind left right = Ok (truth_number (int_le right left))
binary_value Eq kind left right = Ok (truth_number (int_eq left right))
binary_value Ne kind left right = Ok (truth_number (not (int_eq left right)))

-- a comparison gives an `int`, any other operation the kind of its left operand
abbrev pub kind_given : Binary → Kind → Kind
kind_given Lt kind = Int
kind_given Le kind = Int
kind_given Gt kind = Int
kind_given Ge kind = Int
kind_given Eq kind = Int
kind_given Ne kind = Int
kind_given op kind = kind

-- a number modulo 256
abbrev pub low_byte : ℤ → ℕ
low_byte (pos n) = n % 256
low_byte (negsuc n) = 255 - n % 256
