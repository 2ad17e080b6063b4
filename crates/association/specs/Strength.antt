-- How strongly a predicate goes with failing: the chi-square statistic of its 2x2 table over the number of runs. That is the square of the phi coefficient,
-- which is the coefficient of correlation of two events. It counts where the predicate goes with failing, and is 0 where it goes with success.
use Rattle.std.specs.Prelude.{◌≡◌, ℕ, ◌+◌, ◌-◌, ◌*◌, ◌≤◌, ◌==◌, if◌then◌else◌}
use Rattle.fractions.specs.declared.fraction.Fraction.{Fraction}
use Rattle.association.specs.declared.contingency.Contingency.{Contingency}

-- the bounds of a table: there are at most 100,000 runs
pub record IsContingency (t : Contingency) : Type 0 where
  pub some_failing : t.a ≤ t.failing
  pub some_successful : t.b ≤ t.successful
  pub runs : t.failing + t.successful ≤ 100000

-- in how many runs the predicate is true, and how many runs there are
abbrev pub held_in : Contingency → ℕ
held_in t = t.a + t.b

abbrev pub runs_of : Contingency → ℕ
runs_of t = t.failing + t.successful

-- the determinant a * (S - b) - b * (F - a) of the table, where F runs fail and S are successful, and 0 where that isn't positive
abbrev pub excess_of : Contingency → ℕ
excess_of t = t.a * t.successful - t.b * t.failing

abbrev pub truth_margin_of : Contingency → ℕ
truth_margin_of t = held_in t * (runs_of t - held_in t)

-- the product of the totals of both rows and both columns
abbrev pub margins_of : Contingency → ℕ
margins_of t = t.failing * t.successful * truth_margin_of t

-- the square of the determinant over the product of the totals, and 0 where a total is 0
abbrev pub strength_of : Contingency → Fraction
strength_of t = if margins_of t == 0 then record { top = 0; bottom = 1 } else record { top = excess_of t * excess_of t; bottom = margins_of t }

-- of two tables over the same runs: they share the totals of failing and of successful runs
pub record AreOfOneList (t u : Contingency) : Type 0 where
  pub failing : t.failing ≡ u.failing
  pub successful : t.successful ≡ u.successful

-- a strength times the two totals that all tables of one list share
abbrev pub share_of : Contingency → Fraction
share_of t = if truth_margin_of t == 0 then record { top = 0; bottom = 1 } else record { top = excess_of t * excess_of t; bottom = truth_margin_of t }
