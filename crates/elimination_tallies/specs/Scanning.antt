-- One scan of a table for the leader.
use Rattle.std.specs.Prelude.{◌≡◌, ℕ, ◌*◌, ◌≤◌, Bool, nat_lt, List, Some, slice_get, slice_index_or}
use Rattle.fractions.specs.declared.fraction.Fraction.{Fraction}
use Rattle.fractions.specs.declared.tally.Tally.{Tally}
use Rattle.fractions.specs.Fraction.{IsFraction}
use Rattle.fractions.specs.Tally.{IsTally, Passes, importance_of}
use Rattle.elimination_tallies.specs.declared.scan.Candidate.{Candidate}

-- the numbers of a predicate in a table
abbrev pub tally_at : List Tally → ℕ → Tally
tally_at tallies p = slice_index_or tallies p (record { a = 0; b = 0; c = 0; d = 0 })

-- what a scan relies on
abbrev pub AreScanned : List Tally → ℕ → Type 0
AreScanned tallies failing = (p : ℕ) (t : Tally) → slice_get tallies p ≡ Some t → IsTally t × (t.c ≤ failing)

-- the first of two values is greater
abbrev pub is_greater_fraction : Fraction → Fraction → Bool
is_greater_fraction left right = nat_lt (right.top * left.bottom) (left.top * right.bottom)

-- a passing predicate with its importance
pub record IsCandidate (predicate : ℕ) (tally : Tally) (failing : ℕ) (c : Candidate) : Type 0 where
  pub predicate_is : c.predicate ≡ predicate
  pub tally_is : c.tally ≡ tally
  pub passes : Passes tally
  pub importance_is : c.importance ≡ importance_of tally failing
  pub fraction : IsFraction c.importance
