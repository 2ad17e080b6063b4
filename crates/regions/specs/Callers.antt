-- Who calls each function.
use Rattle.std.specs.Prelude.{◌≡◌, ◌⊎◌, ℕ, ◌<◌, List, [], length, slice_index_or, Contains}
use Rattle.flow.specs.declared.node.Node.{Node}
use Rattle.flow.specs.declared.node.View.TheVariants.{Calls}
use Rattle.regions.specs.Weighty.{views_of}

-- the callers of a function; there are none of one without a list
abbrev pub function_callers : List (List ℕ) → ℕ → List ℕ
function_callers table function = slice_index_or table function []

-- one of the first nodes, so many of them, calls the function
pub record CallsAmong (nodes : List Node) (count callee : ℕ) : Type 0 where
  pub place : ℕ
  pub within : place < count
  pub next : ℕ
  pub is : views_of nodes place ≡ Calls callee next

-- the table has these callers more, which are pairs of a called function and of one that calls it
pub record Grew (old new : List (List ℕ)) (Also : ℕ → ℕ → Type 0) : Type 0 where
  pub few : length new ≡ length old
  pub had : (callee caller : ℕ) → Contains (function_callers old callee) caller → Contains (function_callers new callee) caller
  pub has : (callee caller : ℕ) → callee < length old → Also callee caller → Contains (function_callers new callee) caller
  pub only : (callee caller : ℕ) → Contains (function_callers new callee) caller → Contains (function_callers old callee) caller ⊎ Also callee caller
