-- What the code's `/` and `%` give at a number of a kind.
use Rattle.std.proofs.Common.{◌≡◌, ℕ, suc, ◌/◌, ◌%◌, ◌≤◌, false, refl, arith, ℤ, pos, negsuc, neg_ℤ, to_z, of_z, w64, FitsSigned}
use Rattle.std.proofs.lemmas.Int.{ints, quot_is, fits_signed_from_abs}
use Rattle.std.proofs.Math.Nat.{div-le_self, mod-le}
use Rattle.std.specs.Prelude.{int_div, int_rem, unsigned_abs}
use Rattle.cbi_base.specs.declared.scalar.Kind.{Kind}
use Rattle.cbi_base.specs.declared.scalar.Kind.TheVariants.{Char, Int, Unsigned}
use Rattle.cbi_base.specs.Words.{LiesIn, is_zero}
use Rattle.c_values.proofs.Ranges.{LiesIn-ends, ends-LiesIn, size_below}

abs-neg : (n : ℕ) → unsigned_abs (neg_ℤ (pos n)) ≡ n
abs-neg n = omega (arith, ints)

quotient_size : (a d : ℤ) → unsigned_abs (int_div a d) ≤ unsigned_abs a
quotient_size (pos a) (pos d) = div-le_self a d
quotient_size (pos a) (negsuc d) = omega (arith, abs-neg (a / suc d), div-le_self a (suc d))
quotient_size (negsuc a) (pos d) = omega (arith, abs-neg (suc a / d), div-le_self (suc a) d)
quotient_size (negsuc a) (negsuc d) = div-le_self (suc a) (suc d)

pub quotient_fits : (kind : Kind) (a d : ℤ) → LiesIn kind a → FitsSigned w64 (int_div a d)
quotient_fits kind a d h = fits_signed_from_abs w64 (int_div a d) (omega (arith, quotient_size a d, size_below kind a h))

pub quotient_of : (kind : Kind) (a d : ℤ) → LiesIn kind a → FitsSigned w64 a → FitsSigned w64 d →
    to_z w64 (of_z w64 (int_div (to_z w64 (of_z w64 a)) (to_z w64 (of_z w64 d)))) ≡ int_div a d
quotient_of kind a d h fits divisor = quot_is w64 a d fits divisor (quotient_fits kind a d h)

-- a divisor whose bits aren't all zero
pub is_zero-false : (d : ℤ) → FitsSigned w64 d → ¬ (of_z w64 d ≡ 0) → is_zero d ≡ false
is_zero-false (pos n) fits apart = grind (arith, ints)
is_zero-false (negsuc n) fits apart = grind (arith, ints)

-- a number that is no greater than one of the kind and has its sign
abbrev pub IsNearer : ℤ → ℤ → Type 0
IsNearer r (pos a) = (n : ℕ) × ((r ≡ pos n) × (n ≤ a))
IsNearer r (negsuc a) = (n : ℕ) × ((r ≡ neg_ℤ (pos n)) × (n ≤ suc a))

remainder_nearer : (a d : ℤ) → IsNearer (int_rem a d) a
remainder_nearer (pos a) d = (a % unsigned_abs d, (refl, mod-le a (unsigned_abs d)))
remainder_nearer (negsuc a) d = (suc a % unsigned_abs d, (refl, mod-le (suc a) (unsigned_abs d)))

nearer-LiesIn : (kind : Kind) (a r : ℤ) → IsNearer r a → LiesIn kind a → LiesIn kind r
nearer-LiesIn Char (pos a) r (n, (is, below)) h =
    let ends = LiesIn-ends Char (pos a) h in ends-LiesIn Char r (omega (arith, ints)) (omega (arith, ints))
nearer-LiesIn Char (negsuc a) r (n, (is, below)) h =
    let ends = LiesIn-ends Char (negsuc a) h in ends-LiesIn Char r (omega (arith, ints)) (omega (arith, ints))
nearer-LiesIn Int (pos a) r (n, (is, below)) h =
    let ends = LiesIn-ends Int (pos a) h in ends-LiesIn Int r (omega (arith, ints)) (omega (arith, ints))
nearer-LiesIn Int (negsuc a) r (n, (is, below)) h =
    let ends = LiesIn-ends Int (negsuc a) h in ends-LiesIn Int r (omega (arith, ints)) (omega (arith, ints))
nearer-LiesIn Unsigned (pos a) r (n, (is, below)) h =
    let ends = LiesIn-ends Unsigned (pos a) h in ends-LiesIn Unsigned r (omega (arith, ints)) (omega (arith, ints))
nearer-LiesIn Unsigned (negsuc a) r (n, (is, below)) h =
    let ends = LiesIn-ends Unsigned (negsuc a) h in ends-LiesIn Unsigned r (omega (arith, ints)) (omega (arith, ints))

pub remainder-LiesIn : (kind : Kind) (a d : ℤ) → LiesIn kind a → LiesIn kind (int_rem a d)
remainder-LiesIn kind a d h = nearer-LiesIn kind a (int_rem a d) (remainder_nearer a d) h
