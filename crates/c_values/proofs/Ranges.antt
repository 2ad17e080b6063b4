-- Laws of the kinds' ranges and of a number that is taken into one.
use Rattle.std.proofs.Common.{◌≡◌, ℕ, ◌+◌, ◌*◌, ◌^◌, ◌<◌, ◌≤ℤ◌, ◌&&◌, arith, ℤ, pos, negsuc, ◌-ℤ◌}
use Rattle.std.proofs.lemmas.Int.{ints}
use Rattle.std.specs.Int.{int_div_euclid, int_rem_euclid}
use Rattle.std.specs.Prelude.{int_le, unsigned_abs}
use Rattle.base_lists.proofs.Tests.{both_true, true_both}
use Rattle.cbi_base.specs.declared.scalar.Kind.{Kind}
use Rattle.cbi_base.specs.declared.scalar.Kind.TheVariants.{Char, Int, Unsigned}
use Rattle.cbi_base.specs.Kind.{least_of, greatest_of, size_of, wrapped_value, LiesIn}
use borrow.Author.Differences.{up, down}

-- the quotient that rounds down, and the remainder that it leaves, which `omega` reads as differences of whole numbers
pub int_rem_euclid-parts : (a : ℤ) (k : ℕ) → 0 < k →
    (up (int_rem_euclid a (pos k)) + up (int_div_euclid a (pos k)) * k + down a ≡ down (int_div_euclid a (pos k)) * k + up a) × (down (int_rem_euclid a (pos k)) ≡ 0) × (up (int_rem_euclid a (pos k)) < k)
int_rem_euclid-parts (pos a) k h = omega arith
int_rem_euclid-parts (negsuc a) k h = omega arith

pub LiesIn-ends : (kind : Kind) (value : ℤ) → LiesIn kind value → (least_of kind ≤ℤ value) × (value ≤ℤ greatest_of kind)
LiesIn-ends kind value h =
    let halves = true_both (int_le (least_of kind) value) (int_le value (greatest_of kind)) h in
    let low = halves.0 in
    let high = halves.1 in
    (omega (arith, ints), omega (arith, ints))

pub ends-LiesIn : (kind : Kind) (value : ℤ) → least_of kind ≤ℤ value → value ≤ℤ greatest_of kind → LiesIn kind value
ends-LiesIn kind value low high =
    both_true (int_le (least_of kind) value) (int_le value (greatest_of kind)) (grind (arith, ints)) (grind (arith, ints))

pub wrapped-LiesIn : (kind : Kind) (value : ℤ) → LiesIn kind (wrapped_value kind value)
wrapped-LiesIn Char value =
    let rest = int_rem_euclid-parts (value -ℤ least_of Char) (size_of Char) (omega arith) in
    ends-LiesIn Char (wrapped_value Char value) (omega (arith, ints)) (omega (arith, ints))
wrapped-LiesIn Int value =
    let rest = int_rem_euclid-parts (value -ℤ least_of Int) (size_of Int) (omega arith) in
    ends-LiesIn Int (wrapped_value Int value) (omega (arith, ints)) (omega (arith, ints))
wrapped-LiesIn Unsigned value =
    let rest = int_rem_euclid-parts (value -ℤ least_of Unsigned) (size_of Unsigned) (omega arith) in
    ends-LiesIn Unsigned (wrapped_value Unsigned value) (omega (arith, ints)) (omega (arith, ints))

-- a number of a kind has fewer than 33 bits
pub size_below : (kind : Kind) (a : ℤ) → LiesIn kind a → unsigned_abs a < 2 ^ 32
size_below Char a h = let ends = LiesIn-ends Char a h in omega (arith, ints)
size_below Int a h = let ends = LiesIn-ends Int a h in omega (arith, ints)
size_below Unsigned a h = let ends = LiesIn-ends Unsigned a h in omega (arith, ints)
