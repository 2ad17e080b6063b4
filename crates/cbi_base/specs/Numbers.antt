-- What the fields of a line are read as, each by a plain body: a number, a signed number, the last one or two numbers of a line.
use Rattle.std.specs.Prelude.{ℕ, zero, suc, Bool, ◌&&◌, ◌==◌, if◌then◌else◌, nat_le, ℤ, pos, negsuc, List, [], ◌∷◌, Option, None, Some, decimal}
use Rattle.std.specs.Option.{option_and_then, option_map}
use Rattle.std.specs.Str.Parse.{digits_value}
use lib.Pointwise.{pointwise}

-- the two words are the same
abbrev pub is_word : List ℕ → List ℕ → Bool
is_word field word = pointwise ◌==◌ field word

infixl 10 ◌>>=◌
abbrev pub ◌>>=◌ : {A B : Type 0} → Option A → (A → Option B) → Option B
o >>= f = option_and_then f o

-- the number whose decimal the field is, where it is at most `most`
unfoldable pub number_of : ℕ → List ℕ → Option ℕ
number_of most field =
    if is_word (decimal (digits_value 10 field)) field && nat_le (digits_value 10 field) most
    then Some (digits_value 10 field)
    else None

abbrev pub negative_of : ℕ → Option ℤ
negative_of zero = None
negative_of (suc n) = Some (negsuc n)

-- the signed number of 64 bits whose decimal the field is
unfoldable pub signed_of : List ℕ → Option ℤ
signed_of [] = None
signed_of (b ∷ digits) =
    if b == 45
    then (number_of 9223372036854775808 digits >>= negative_of)
    else option_map pos (number_of 9223372036854775807 (b ∷ digits))

-- the greatest number of 32 bits
abbrev pub greatest_u32 : ℕ
greatest_u32 = 4294967295

-- the number of 32 bits that is the one field
abbrev pub one_number : List (List ℕ) → Option ℕ
one_number [] = None
one_number (field ∷ []) = number_of greatest_u32 field
one_number (field ∷ next ∷ more) = None

-- two numbers of 32 bits, which are the last fields
abbrev pub two_numbers : List (List ℕ) → Option (ℕ × ℕ)
two_numbers [] = None
two_numbers (field ∷ rest) = number_of greatest_u32 field >>= λ first. option_map (λ second. (first, second)) (one_number rest)
