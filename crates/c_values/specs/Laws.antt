-- What the definitions of the arithmetic mean, in the standard's words.
use Rattle.std.specs.Prelude.{◌≡◌, ◌<◌, ℕ, ℤ, pos, negsuc, ◌+ℤ◌, ◌*ℤ◌, ◌≤ℤ◌, ◌<ℤ◌, unsigned_abs}
use Rattle.std.specs.Int.{bit_at}
use Rattle.cbi_base.specs.declared.scalar.Kind.{Kind}
use Rattle.cbi_base.specs.declared.scalar.Kind.TheVariants.{Int}
use Rattle.cbi_base.specs.Words.{least_of, size_of, LiesIn, bits_of}

-- the value lies in the kind's range and differs from the exact number by a multiple of the kind's size (C99 6.3.1.3p2)
pub record IsModulo (kind : Kind) (exact value : ℤ) : Type 0 where
  pub inside : LiesIn kind value
  pub multiple : (n : ℤ) × (exact ≡ value +ℤ (n *ℤ pos (size_of kind)))

-- Quotient times divisor and the rest make the dividend; the rest is smaller than the divisor and has the dividend's
-- sign (C99 6.5.5p6). So the quotient is truncated towards zero.
pub record IsDivision (dividend divisor quotient rest : ℤ) : Type 0 where
  pub whole : (quotient *ℤ divisor) +ℤ rest ≡ dividend
  pub smaller : unsigned_abs rest < unsigned_abs divisor
  pub not_below : pos 0 ≤ℤ dividend → pos 0 ≤ℤ rest
  pub not_above : dividend ≤ℤ pos 0 → rest ≤ℤ pos 0

-- the least `int` divided by -1
abbrev pub IsLeastByMinusOne : ℤ → ℤ → Type 0
IsLeastByMinusOne dividend divisor = (dividend ≡ least_of Int) × (divisor ≡ negsuc 0)

-- the quotient is the greatest whole number whose product with the divisor isn't above the dividend
pub record IsRoundedDown (dividend divisor quotient : ℤ) : Type 0 where
  pub reached : (quotient *ℤ divisor) ≤ℤ dividend
  pub greatest : dividend <ℤ ((quotient +ℤ pos 1) *ℤ divisor)

-- the bit of a number in two's complement at a place, from 0 for the lowest
abbrev pub bit_of : ℤ → ℕ → ℕ
bit_of value place = bit_at (bits_of value) place
