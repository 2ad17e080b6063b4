-- The four numbers of a predicate, and what a ranking makes of them: the test and the importance (PLDI 2005 section 3).
use Rattle.std.specs.Prelude.{ℕ, ◌+◌, ◌-◌, ◌*◌, ◌^◌, ◌<◌, ◌≤◌, ◌==◌, ◌||◌, if◌then◌else◌}
use Rattle.fractions.specs.declared.fraction.Fraction.{Fraction}
use Rattle.fractions.specs.declared.tally.Tally.{Tally}
use Rattle.fractions.specs.Logarithm.{log_of}

-- the bounds of a tally: a predicate is true only in runs that observed it, and these are at most 100,000
pub record IsTally (t : Tally) : Type 0 where
  pub failing : t.a ≤ t.c
  pub successful : t.b ≤ t.d
  pub runs : t.c + t.d ≤ 100000

-- Increase, the difference a/(a+b) - c/(c+d), is this number over `spread_of` (PLDI 2005 section 3.1)
abbrev pub surplus_of : Tally → ℕ
surplus_of t = t.a * t.d - t.b * t.c

abbrev pub spread_of : Tally → ℕ
spread_of t = (t.a + t.b) * (t.c + t.d)

-- a/c is above b/d, and by more than 1.96 standard deviations of that difference (PLDI 2005 section 3.2).
-- Its variance is a*(c-a)/c^3 + b*(d-b)/d^3; both sides are multiplied by c^3 * d^3 and by 100^2
pub record Passes (t : Tally) : Type 0 where
  pub increases : t.b * t.c < t.a * t.d
  pub significant :
      38416 * (t.a * (t.c - t.a) * t.d ^ 3 + t.b * (t.d - t.b) * t.c ^ 3)
      < (t.a * t.d - t.b * t.c) ^ 2 * t.c * t.d * 10000

-- the harmonic mean of n/d and l/k, and 0 where l or k is 0
abbrev pub harmonic_mean : ℕ → ℕ → ℕ → ℕ → Fraction
harmonic_mean n d l k =
    if (l == 0) || (k == 0) then record { top = 0; bottom = 1 } else record { top = 2 * n * l; bottom = n * k + l * d }

-- the harmonic mean of Increase and the logarithm of a over the one of all failing runs (PLDI 2005 section 3.3)
unfoldable pub importance_of : Tally → ℕ → Fraction
importance_of t failing = harmonic_mean (surplus_of t) (spread_of t) (log_of t.a) (log_of failing)
