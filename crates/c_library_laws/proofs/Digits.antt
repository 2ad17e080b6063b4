-- The digits of a number, and the byte of one, are those that are printed.
use Rattle.std.specs.Fmt.{signed_decimal}
use Rattle.std.proofs.Common.{◌≡◌, ◌<◌, ◌≤◌, ℕ, suc, ◌+◌, ◌-◌, ◌*◌, ◌/◌, ◌%◌, ◌^◌, decimal, ℤ, pos, negsuc, List, [], ◌∷◌, ◌++◌, ap, ap₂, sym, ◌∙◌, arith}
use Rattle.std.proofs.lemmas.Fmt.{decimal_digit, decimal_step}
use Rattle.cbi_base.specs.Arithmetic.{low_byte}
use Rattle.c_library_laws.specs.Numbers.{IsByteOf, IsDecimal, IsSigned, IsUnsigned}
use Rattle.c_library_laws.specs.Numbers.IsDecimal.{Digit, More}

-- one digit more
digit-more : (number digit : ℕ) → 1 ≤ number → digit < 10 → 10 * number + digit < 2 ^ 64 → decimal (10 * number + digit) ≡ decimal number ++ (48 + digit) ∷ []
digit-more number digit some below small =
    let first : (10 * number + digit) / 10 ≡ number = omega arith in
    let last : (10 * number + digit) % 10 ≡ digit = omega arith in
    decimal_step (10 * number + digit) (omega arith) small ∙ ap₂ (λ (n d : ℕ). decimal n ++ (48 + d) ∷ []) first last

pub decimal-is : {digits : List ℕ} {number : ℕ} → IsDecimal digits number → number < 2 ^ 64 → decimal number ≡ digits
decimal-is (Digit digit below) small = decimal_digit digit below
decimal-is (More digits number digit some is below) small =
    digit-more number digit some below small ∙ ap (λ (ds : List ℕ). ds ++ (48 + digit) ∷ []) (decimal-is is (omega arith))

pub signed-is : (digits : List ℕ) (value : ℤ) → IsSigned digits value → signed_decimal value ≡ digits
signed-is digits (pos n) is = decimal-is is.0 (omega (arith, is.1))
signed-is [] (negsuc n) is = absurd is
signed-is (sign ∷ digits) (negsuc n) is = ap₂ (λ (b : ℕ) (ds : List ℕ). b ∷ ds) (sym is.0) (decimal-is is.1 (omega (arith, is.2)))

pub unsigned-is : (digits : List ℕ) (value : ℤ) → IsUnsigned digits value → signed_decimal value ≡ digits
unsigned-is digits (pos n) is = decimal-is is.0 (omega (arith, is.1))
unsigned-is digits (negsuc n) is = absurd is

above : (n times byte : ℕ) → byte < 256 → n ≡ 256 * times + byte → n % 256 ≡ byte
above n times byte below same = omega arith

under : (n times byte : ℕ) → byte < 256 → suc n + byte ≡ 256 * times → 255 - n % 256 ≡ byte
under n times byte below same = omega arith

pub byte-is : (byte : ℕ) (value : ℤ) → IsByteOf byte value → low_byte value ≡ byte
byte-is byte (pos n) is = above n is.1.0 byte is.0 is.1.1
byte-is byte (negsuc n) is = under n is.1.0 byte is.0 is.1.1
