-- The fixed logarithm: its steps, and what it comes to.
use Rattle.std.specs.Prelude.{◌≡◌, ℕ, Bool, ◌+◌, ◌-◌, ◌*◌, ◌/◌, ◌^◌, ◌<◌, ◌≤◌, nat_le, if◌then◌else◌}
use Rattle.std.proofs.Common.{zero, suc}

-- the greatest number up to a limit whose power of two is at most n
unfoldable pub greatest_exponent : ℕ → ℕ → ℕ
greatest_exponent zero n = 0
greatest_exponent (suc limit) n = if nat_le (2 ^ suc limit) n then suc limit else greatest_exponent limit n

-- m is the mantissa of n at the exponent e: n is 2^e * m / 2^62
pub record IsMantissa (n e m : ℕ) : Type 0 where
  pub one_or_more : 2 ^ 62 ≤ m
  pub below_two : m < 2 ^ 63
  pub whole : m * 2 ^ e ≡ n * 2 ^ 62

-- the exponent and the mantissa of a number below 2^17
abbrev pub exponent_of : ℕ → ℕ
exponent_of n = greatest_exponent 16 n

abbrev pub mantissa_of : ℕ → ℕ
mantissa_of n = n * 2 ^ (62 - exponent_of n)

-- the square of a mantissa, rounded down
abbrev pub square_of : ℕ → ℕ
square_of m = m * m / 2 ^ 62

-- whether the number that a mantissa stands for has a square of 2 or more
abbrev pub reaches_two : ℕ → Bool
reaches_two m = nat_le (2 ^ 63) (square_of m)

-- the first binary place of a mantissa's logarithm, and the mantissa that the places after it belong to
abbrev pub first_place : ℕ → ℕ
first_place m = if reaches_two m then 1 else 0

abbrev pub rest_of : ℕ → ℕ
rest_of m = if reaches_two m then square_of m / 2 else square_of m

-- the first places of a mantissa's logarithm, as many as are wanted, read as one number
unfoldable pub logarithm_places : ℕ → ℕ → ℕ
logarithm_places zero m = 0
logarithm_places (suc count) m = first_place m * 2 ^ count + logarithm_places count (rest_of m)

-- the binary logarithm in parts of 65536: the exponent, and then sixteen binary places
unfoldable pub log_of : ℕ → ℕ
log_of n = exponent_of n * 65536 + logarithm_places 16 (mantissa_of n)

-- l / 65536 is at most the binary logarithm of n, and lacks less than 2 / 65536
unfoldable pub IsLogarithm : ℕ → ℕ → Type 0
IsLogarithm n l = (2 ^ l ≤ n ^ 65536) × (n ^ 65536 < 2 ^ (l + 2))
