-- What watchers were told, over any type of them: `seen` is the list of one.
use Rattle.std.specs.Prelude.{◌≡◌, ℕ, List, ◌++◌, length, slice_get, take, Some}
use Rattle.cbi_base.specs.declared.observation.Observation.{Observation}

-- each of the watchers was told these, after what it was told before
pub record AllGrew {B : Type 0} (seen : B → List Observation) (more : List Observation) (old new : List B) : Type 0 where
  pub same_length : length new ≡ length old
  pub each : (place : ℕ) (before after : B) → slice_get old place ≡ Some before → slice_get new place ≡ Some after
      → seen after ≡ seen before ++ more

-- a list grew by a prefix of these
pub record GrewByPrefix (more before after : List Observation) : Type 0 where
  pub cut : ℕ
  pub is : after ≡ before ++ take cut more

-- each of the watchers was told a prefix of these
pub record AllGrewByPrefix {B : Type 0} (seen : B → List Observation) (more : List Observation) (old new : List B) : Type 0 where
  pub same_length : length new ≡ length old
  pub each : (place : ℕ) (before after : B) → slice_get old place ≡ Some before → slice_get new place ≡ Some after
      → GrewByPrefix more (seen before) (seen after)
