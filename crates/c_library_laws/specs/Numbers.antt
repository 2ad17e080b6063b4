-- Numbers as they are printed, and characters as they are written, by digits and by multiples of 256.
use Rattle.std.specs.Prelude.{◌≡◌, ◌<◌, ◌≤◌, ℕ, suc, ◌+◌, ◌*◌, ◌^◌, ℤ, pos, negsuc, List, [], ◌∷◌, ◌++◌}

-- the digits of a number in base 10, of which none is needless: a digit, or those of a number that isn't 0 and one digit more
pub data IsDecimal : List ℕ → ℕ → Type 0 where
  Digit : (digit : ℕ) → digit < 10 → IsDecimal ((48 + digit) ∷ []) digit
  More : (digits : List ℕ) (number digit : ℕ) → 1 ≤ number → IsDecimal digits number → digit < 10 →
      IsDecimal (digits ++ (48 + digit) ∷ []) (10 * number + digit)

-- an `int` in the style [-]dddd (C99 7.19.6.1p8, `d`)
abbrev pub IsSigned : List ℕ → ℤ → Type 0
IsSigned bytes (pos n) = IsDecimal bytes n × (n < 2 ^ 31)
IsSigned [] (negsuc n) = ⊥
IsSigned (sign ∷ digits) (negsuc n) = (sign ≡ 45) × IsDecimal digits (suc n) × (n < 2 ^ 31)

-- an `unsigned` in the style dddd (C99 7.19.6.1p8, `u`)
abbrev pub IsUnsigned : List ℕ → ℤ → Type 0
IsUnsigned bytes (pos n) = IsDecimal bytes n × (n < 2 ^ 32)
IsUnsigned bytes (negsuc n) = ⊥

-- A number converted to `unsigned char`: the byte that differs from it by a multiple of 256 (C99 6.3.1.3p2).
abbrev pub IsByteOf : ℕ → ℤ → Type 0
IsByteOf byte (pos n) = (byte < 256) × ((times : ℕ) × (n ≡ 256 * times + byte))
IsByteOf byte (negsuc n) = (byte < 256) × ((times : ℕ) × (suc n + byte ≡ 256 * times))
