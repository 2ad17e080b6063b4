-- Sets of numbers, kept as one flag for each number.
use Rattle.std.specs.Prelude.{◌≡◌, ◌↔◌, ℕ, List, length, Bool, true, false, slice_index_or}

-- whether the number's flag is set; a number without a flag isn't in the set
abbrev pub is_in : List Bool → ℕ → Bool
is_in flags number = slice_index_or flags number false

-- the flags of so many numbers, set for those of the set
pub record AreFlags (count : ℕ) (Holds : ℕ → Type 0) (flags : List Bool) : Type 0 where
  pub few : length flags ≡ count
  pub each : (number : ℕ) → (is_in flags number ≡ true) ↔ Holds number
