-- Fractions: their bounds, and their order.
use Rattle.std.specs.Prelude.{ℕ, ◌*◌, ◌/◌, ◌^◌, ◌<◌, ◌≤◌}
use Rattle.std.specs.Ordering.{nat_cmp}
use Rattle.std.specs.declared.cmp.Ordering.{Ordering}
use Rattle.fractions.specs.declared.fraction.Fraction.{Fraction}

-- the bounds of a fraction
pub record IsFraction (f : Fraction) : Type 0 where
  pub positive : 0 < f.bottom
  pub small_top : f.top ≤ 10 ^ 17
  pub small_bottom : f.bottom ≤ 10 ^ 17

-- the order of two fractions, by their tops over one common bottom
abbrev pub fraction_cmp : Fraction → Fraction → Ordering
fraction_cmp left right = nat_cmp (left.top * right.bottom) (right.top * left.bottom)

-- the value on the left is at most the one on the right
abbrev pub IsAtMost : Fraction → Fraction → Type 0
IsAtMost left right = left.top * right.bottom ≤ right.top * left.bottom

-- a fraction in millionths, rounded down
abbrev pub millionths_of : Fraction → ℕ
millionths_of f = f.top * 1000000 / f.bottom
