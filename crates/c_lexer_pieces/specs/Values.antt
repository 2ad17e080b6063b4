-- What the digits of a constant and an escape stand for.
use Rattle.std.specs.Prelude.{ℕ, ◌+◌, ◌*◌, ◌^◌, ℤ, pos, ◌-ℤ◌, Bool, true, false, not, ◌||◌, ◌&&◌, ◌==◌, nat_lt, if◌then◌else◌, List, [], ◌∷◌, drop, Option}
use Rattle.std.specs.Prelude.{Some, None}
use Rattle.cbi_base.specs.declared.scalar.Kind.{Kind}
use Rattle.cbi_base.specs.declared.scalar.Kind.TheVariants as kind
use Rattle.c_lexer_pieces.specs.declared.bytes.Class.{Class}
use Rattle.c_lexer_pieces.specs.declared.bytes.Class.TheVariants as class
use Rattle.c_lexer_pieces.specs.declared.constants.Radix.{Radix}
use Rattle.c_lexer_pieces.specs.declared.constants.Radix.TheVariants as radix
use Rattle.c_lexer_pieces.specs.Bytes.{begins_with_byte, digit_value}

-- the number that digits behind others stand for
abbrev pub value_from : ℕ → ℕ → List ℕ → ℕ
value_from base v [] = v
value_from base v (d ∷ ds) = value_from base (v * base + digit_value d) ds

-- the number that digits stand for
abbrev pub value_of : ℕ → List ℕ → ℕ
value_of base digits = value_from base 0 digits

abbrev pub class_of : Radix → Class
class_of radix.Octal = class.Octal
class_of radix.Decimal = class.Decimal
class_of radix.Hexadecimal = class.Hexadecimal

abbrev pub base_of : Radix → ℕ
base_of radix.Octal = 8
base_of radix.Decimal = 10
base_of radix.Hexadecimal = 16

abbrev pub is_decimal : Radix → Bool
is_decimal radix.Decimal = true
is_decimal _ = false

-- The kind of a constant (C99 6.4.4.1, with the two types of this dialect).
unfoldable pub kind_of : Radix → Bool → ℕ → Option Kind
kind_of r suffixed v =
    if not suffixed && nat_lt v (2 ^ 31) then Some kind.Int
    else (if nat_lt v (2 ^ 32) && (suffixed || not (is_decimal r)) then Some kind.Unsigned else None)

-- what a letter behind a backslash stands for, other than of an octal or hexadecimal escape (C99 6.4.4.4)
unfoldable pub simple_escape : ℕ → Option ℕ
simple_escape c =
    if c == 110 then Some 10 else (if c == 116 then Some 9 else (if c == 114 then Some 13 else (if c == 97 then Some 7
    else (if c == 98 then Some 8 else (if c == 102 then Some 12 else (if c == 118 then Some 11 else (if c == 92 then Some 92
    else (if c == 39 then Some 39 else (if c == 34 then Some 34 else (if c == 63 then Some 63 else None))))))))))

-- a byte as a signed number of 8 bits
abbrev pub signed_byte : ℕ → ℤ
signed_byte b = if nat_lt b 128 then pos b else pos b -ℤ pos 256

-- the bytes after the first `*/`
abbrev pub after_close : List ℕ → Option (List ℕ)
after_close [] = None
after_close (b ∷ bs) = if (b == 42) && begins_with_byte 47 bs then Some (drop 1 bs) else after_close bs
