-- Functions as they are found one after another: flags of those that were found, and their order.
use Rattle.std.specs.Prelude.{◌≡◌, ◌⊎◌, ℕ, ◌<◌, ◌≤◌, List, length, Bool, true, slice_index, Contains}
use Rattle.std.specs.List.{count_by}
use Rattle.regions.specs.Flags.{is_in}

-- as many flags are set as functions were found, and of just these
pub record IsReach (flags : List Bool) (order : List ℕ) : Type 0 where
  pub counted : count_by (λ flag. flag) flags ≡ length order
  pub flagged : (place : ℕ) → place < length order → is_in flags (slice_index order place) ≡ true
  pub listed : (function : ℕ) → is_in flags function ≡ true → Contains order function

-- these functions were found besides, after those that were found before
pub record Reached (flags : List Bool) (order : List ℕ) (new : List Bool) (after : List ℕ) (Also : ℕ → Type 0) : Type 0 where
  pub is_reach : IsReach new after
  pub few : length new ≡ length flags
  pub longer : length order ≤ length after
  pub kept : (place : ℕ) → place < length order → slice_index after place ≡ slice_index order place
  pub had : (function : ℕ) → is_in flags function ≡ true → is_in new function ≡ true
  pub has : (function : ℕ) → function < length flags → Also function → is_in new function ≡ true
  pub only : (function : ℕ) → is_in new function ≡ true → (is_in flags function ≡ true) ⊎ Also function
