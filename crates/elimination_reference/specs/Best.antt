-- The leader among the predicates that were looked at.
use Rattle.std.specs.Prelude.{◌≡◌, ℕ, ◌<◌, Option, None, Some}
use Rattle.fractions.specs.declared.tally.Tally.{Tally}
use Rattle.fractions.specs.Fraction.{IsFraction}
use Rattle.fractions.specs.Tally.{Passes, importance_of}
use Rattle.elimination_tallies.specs.declared.listed.Listed.{Listed}
use Rattle.elimination_tallies.specs.Leading.{Leads, NonePass}

-- the importance of each of them that passes is a fraction within the bounds of one
abbrev pub AreFractions : (numbers : ℕ → Tally) → (count failing : ℕ) → Type 0
AreFractions numbers count failing = (q : ℕ) → q < count → Passes (numbers q) → IsFraction (importance_of (numbers q) failing)

-- the row is of the one that leads
pub record IsRow (numbers : ℕ → Tally) (count failing : ℕ) (row : Listed) : Type 0 where
  pub leads : Leads numbers count failing row.predicate
  pub tally : row.tally ≡ numbers row.predicate
  pub failing_is : row.failing ≡ failing

-- none of them passes, or the row is of the one that leads
abbrev pub IsBest : (numbers : ℕ → Tally) → (count failing : ℕ) → Option Listed → Type 0
IsBest numbers count failing None = NonePass numbers count
IsBest numbers count failing (Some row) = IsRow numbers count failing row
