-- What is always true of the objects that the code keeps.
use Rattle.std.specs.Prelude.{◌≡◌, ◌≤◌, ℕ, None}
use Rattle.std.specs.FinMap.{get}
use Rattle.cbi_base.specs.Objects.{Objects, live_cells, cell_limit, object_limit}

-- the live cells are counted, and no object has a number that is still to come
pub record AreObjectsKept (cells : ℕ) (o : Objects) : Type 0 where
  pub counted : cells ≡ live_cells o
  pub room : cells ≤ cell_limit
  pub numbers : o.made ≤ object_limit
  pub fresh : (q : ℕ) → o.made ≤ q → get o.live q ≡ None
