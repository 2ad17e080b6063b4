-- Classes of bytes.
use Rattle.std.specs.Prelude.{ℕ, count_by, ◌-◌, Bool, false, not, ◌||◌, ◌&&◌, ◌==◌, nat_le, if◌then◌else◌, List, [], ◌∷◌}
use Rattle.cbi_base.specs.Name.{is_name_byte}
use Rattle.c_lexer_pieces.specs.declared.bytes.Class.{Class}
use Rattle.c_lexer_pieces.specs.declared.bytes.Class.TheVariants as class

abbrev pub is_within : ℕ → ℕ → ℕ → Bool
is_within low high b = nat_le low b && nat_le b high

-- tab, newline, vertical tab, form feed, carriage return and space
abbrev pub is_separator : ℕ → Bool
is_separator b = is_within 9 13 b || (b == 32)

abbrev pub is_digit : ℕ → Bool
is_digit b = is_within 48 57 b

abbrev pub is_hexadecimal : ℕ → Bool
is_hexadecimal b = is_digit b || (is_within 65 70 b || is_within 97 102 b)

unfoldable pub is_of_class : Class → ℕ → Bool
is_of_class class.Name b = is_name_byte b
is_of_class class.Number b = is_name_byte b || (b == 46)
is_of_class class.Octal b = is_within 48 55 b
is_of_class class.Decimal b = is_digit b
is_of_class class.Hexadecimal b = is_hexadecimal b
is_of_class class.Blank b = (b == 32) || (b == 9)
is_of_class class.Line b = not (b == 10)

-- what a digit counts, up to hexadecimal
abbrev pub digit_value : ℕ → ℕ
digit_value b = if nat_le b 57 then b - 48 else (if nat_le b 70 then b - 55 else b - 87)

abbrev pub newlines : List ℕ → ℕ
newlines bytes = count_by (λ b. b == 10) bytes

-- Whether the byte comes next.
abbrev pub begins_with_byte : ℕ → List ℕ → Bool
begins_with_byte c [] = false
begins_with_byte c (b ∷ bs) = b == c

-- Whether a byte of the class comes next.
abbrev pub begins_with : Class → List ℕ → Bool
begins_with k [] = false
begins_with k (b ∷ bs) = is_of_class k b

-- the longest front of bytes of the class, and what follows it
abbrev pub run_of_class : Class → List ℕ → List ℕ
run_of_class k [] = []
run_of_class k (b ∷ bs) = if is_of_class k b then b ∷ run_of_class k bs else []

abbrev pub bytes_past_run : Class → List ℕ → List ℕ
bytes_past_run k [] = []
bytes_past_run k (b ∷ bs) = if is_of_class k b then bytes_past_run k bs else b ∷ bs
