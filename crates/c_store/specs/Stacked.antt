-- How the live objects are kept: those of functions, globals and texts in the order of their numbers, and those of `malloc` apart.
use Rattle.std.specs.Prelude.{◌≡◌, ℕ, ◌<◌, List, ◌++◌, length, slice_index, None, nat_eq}
use Rattle.std.specs.List.{zip}
use Rattle.std.specs.Map.{lookup}
use Rattle.std.specs.Ordering.{nat_cmp}
use Rattle.std.specs.FinMap.{FinMap, from_entries}
use Rattle.cbi_base.specs.Objects.{Object}

-- numbers that rise
pub record IsRising (numbers : List ℕ) : Type 0 where
  pub step : (i j : ℕ) → i < j → j < length numbers → slice_index numbers i < slice_index numbers j

-- a number stands there
pub record StandsAt (numbers : List ℕ) (number place : ℕ) : Type 0 where
  pub within : place < length numbers
  pub at : slice_index numbers place ≡ number

-- each is below this number
pub record IsBelow (numbers : List ℕ) (number : ℕ) : Type 0 where
  pub all : (k : ℕ) → k < length numbers → slice_index numbers k < number

pub record IsMissing (numbers : List ℕ) (number : ℕ) : Type 0 where
  pub nowhere : (k : ℕ) → k < length numbers → slice_index numbers k ≡ number → ⊥

-- none of the numbers is one of the entries'
pub record IsApart (numbers : List ℕ) (entries : List (ℕ × Object)) : Type 0 where
  pub none : (k : ℕ) → k < length numbers → lookup (nat_eq (slice_index numbers k)) entries ≡ None

abbrev pub map_of : List ℕ → List Object → List (ℕ × Object) → FinMap nat_cmp Object
map_of numbers objects entries = from_entries (zip numbers objects ++ entries)

pub record IsStacked (numbers : List ℕ) (objects : List Object) (entries : List (ℕ × Object)) : Type 0 where
  pub even : length numbers ≡ length objects
  pub rising : IsRising numbers
  pub apart : IsApart numbers entries
