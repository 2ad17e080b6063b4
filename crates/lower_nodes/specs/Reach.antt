-- Where control goes on: each node leads to later ones, but for `again`, which leads to any.
use Rattle.std.specs.Prelude.{◌≡◌, ℕ, List, length, Some, IsTrue, slice_get}
use Rattle.flow.specs.declared.node.Node.{Node}
use Rattle.flow.specs.declared.scope.Bounds.{Bounds}
use Rattle.flow.specs.Words.{leads_rightly, view}

abbrev pub bounds_of_nodes : ℕ → Bounds
bounds_of_nodes count = record { function = 0; locals = 0; nodes = count }

-- the nodes of a function in the order of a program
pub record LeadOn (nodes : List Node) : Type 0 where
  pub each : (place : ℕ) (n : Node) → slice_get nodes place ≡ Some n → IsTrue (leads_rightly (bounds_of_nodes (length nodes)) place (view n))
