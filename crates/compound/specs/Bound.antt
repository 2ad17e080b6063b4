-- The bound of a pair of predicates: where the pair passes, its importance is not above it.
use Rattle.std.specs.Prelude.{ℕ, ◌+◌, ◌*◌, ◌<◌, ◌==◌, ◌||◌, min, if◌then◌else◌}
use Rattle.fractions.specs.declared.fraction.Fraction.{Fraction}
use Rattle.fractions.specs.Logarithm.{log_of}

-- the harmonic mean of 1 and l/k, and 0 where l or k is 0
abbrev pub mean_with_one : ℕ → ℕ → Fraction
mean_with_one l k = if (l == 0) || (k == 0) then record { top = 0; bottom = 1 } else record { top = 2 * l; bottom = l + k }

-- by the smaller of the numbers of failing runs in which the two were true, and how many runs fail
unfoldable pub bound_of : ℕ → ℕ → ℕ → Fraction
bound_of left right failing = mean_with_one (log_of (min left right)) (log_of failing)

-- the value on the left is less than the one on the right
abbrev pub IsLess : Fraction → Fraction → Type 0
IsLess left right = left.top * right.bottom < right.top * left.bottom
