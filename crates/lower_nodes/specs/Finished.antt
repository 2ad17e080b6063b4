-- The nodes of a graph in the order of a program.
use Rattle.std.specs.Prelude.{◌≡◌, ℕ, ◌-◌, List, Some, slice_get, option_map}
use Rattle.flow.specs.declared.node.Node.{Node}
use Rattle.flow.specs.View.{view}
use Rattle.lower_relation.specs.Stands.{renumbered_view}

-- the number of a node, counted from the last one down
abbrev pub turned_number : ℕ → ℕ → ℕ
turned_number last i = last - i

-- each node stands at its new number, with its successors renamed
pub record Finished (old new : List Node) (ren : ℕ → ℕ) : Type 0 where
  pub each : (i : ℕ) (x : Node) → slice_get old i ≡ Some x → option_map view (slice_get new (ren i)) ≡ Some (renumbered_view ren (view x))
