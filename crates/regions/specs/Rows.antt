-- Two lists that go together, item by item.
use Rattle.std.specs.Prelude.{◌≡◌, ℕ, List, length, Some, slice_get}

-- as many rows as items, each of which fits its item
pub record EachFits {A B : Type 0} (Fits : ℕ → A → B → Type 0) (items : List A) (rows : List B) : Type 0 where
  pub few : length rows ≡ length items
  pub each : (number : ℕ) (item : A) (row : B) → slice_get items number ≡ Some item → slice_get rows number ≡ Some row → Fits number item row
