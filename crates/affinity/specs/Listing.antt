-- How one more is listed.
use Rattle.std.specs.Prelude.{◌≡◌, ℕ, ◌<◌, ◌≤◌, List, length, take, slice_index_or, All}
use Rattle.std.specs.List.{insert}
use Rattle.affinity.specs.declared.neighbour.Neighbour.{Neighbour}

-- the place behind those with at least this fall
pub record IsPlaceOf (fall : ℕ) (rows : List Neighbour) (place : ℕ) : Type 0 where
  pub within : place ≤ length rows
  pub above : All (λ (n : Neighbour). fall ≤ n.fall) (take place rows)
  pub below : (d : Neighbour) → place < length rows → (slice_index_or rows place d).fall < fall

-- one more stands at its place, and five of them are kept
pub record IsOffered (next : Neighbour) (old new : List Neighbour) : Type 0 where
  pub place : ℕ
  pub at : IsPlaceOf next.fall old place
  pub new_is : new ≡ take 5 (insert old place next)
