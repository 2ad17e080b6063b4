-- The numbers of each pair of several predicates, by their places.
use Rattle.std.specs.Prelude.{◌≡◌, ℕ, ◌<◌, ◌^◌, List, [], length, slice_index_or}
use Rattle.fractions.specs.declared.tally.Tally.{Tally}
use Rattle.compound_bits.specs.Facts.{Fact, decided_count, both_hold_count}

-- the rows of facts of the predicates, over the failing and over the successful runs
pub record PairFacts : Type 0 where
  pub failing : List (List Fact)
  pub successful : List (List Fact)

-- the row of a place
abbrev pub row_at : List (List Fact) → ℕ → List Fact
row_at rows i = slice_index_or rows i []

-- the numbers of the pair at two places
abbrev pub numbers_by : List (List Fact) → List (List Fact) → ℕ → ℕ → Tally
numbers_by failing successful i j = record {
  a = both_hold_count (row_at failing i) (row_at failing j);
  b = both_hold_count (row_at successful i) (row_at successful j);
  c = decided_count (row_at failing i) (row_at failing j);
  d = decided_count (row_at successful i) (row_at successful j);
}

abbrev pub numbers_at : PairFacts → ℕ → ℕ → Tally
numbers_at facts i j = numbers_by facts.failing facts.successful i j

-- the rows are of one length
pub record AreEven (rows : List (List Fact)) : Type 0 where
  pub same : (i j : ℕ) → i < length rows → j < length rows → length (row_at rows i) ≡ length (row_at rows j)
  pub few : (i : ℕ) → i < length rows → length (row_at rows i) < 2 ^ 32

-- there is a row of each kind at each place
pub record AreBoth (failing successful : List (List Fact)) : Type 0 where
  pub as_many : length successful ≡ length failing
  pub failing_even : AreEven failing
  pub successful_even : AreEven successful
