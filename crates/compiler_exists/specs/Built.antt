-- Nodes that do a part of a text, whatever stands before and behind them, and wherever the part goes on.
use Rattle.std.specs.Prelude.{◌≡◌, ℕ, suc, ◌+◌, ◌≤◌, ◌<◌, if◌then◌else◌, List, [], ◌∷◌, length, Some, slice_get}
use Rattle.flow.specs.declared.node.Node.{Node}
use Rattle.flow.specs.Words.{is_again, led_to, view}
use Rattle.lower_nodes.specs.Ends.{AllBelow}
use Rattle.lower_relation.specs.Functions.{graph_of_nodes}
use Rattle.lower_relation.specs.Paths.{Graph, Path}

-- the nodes stand in the list, from this place on
abbrev pub StandAlong : List Node → ℕ → List Node → Type 0
StandAlong all at [] = Unit {0}
StandAlong all at (x ∷ xs) = (slice_get all at ≡ Some x) × StandAlong all (suc at) xs

-- each node from this place on leads to nodes before it, but for `again`, which leads to any of so many
abbrev pub LeadBackWithin : ℕ → ℕ → List Node → Type 0
LeadBackWithin count at [] = Unit {0}
LeadBackWithin count at (x ∷ xs) = AllBelow (if is_again (view x) then count else at) (led_to (view x)) × LeadBackWithin count (suc at) xs

-- At most so many nodes, which do the part in every list in which they stand from the place on: from the entry to where it goes on. Where it goes
-- on at nodes before them, the entry is one of them or of those, and they lead back.
pub record Built {K : Type 0} (ends : K → List ℕ) (R : Graph → Path K) (room at : ℕ) (k : K) : Type 0 where
  pub nodes : List Node
  pub entry : ℕ
  pub does : (all : List Node) → StandAlong all at nodes → R (graph_of_nodes all) entry k
  pub few : length nodes ≤ room
  pub inside : AllBelow at (ends k) → entry < at + length nodes
  pub back : (count : ℕ) → at + length nodes ≤ count → AllBelow at (ends k) → LeadBackWithin count at nodes

-- there are such nodes for each place, and wherever the part goes on
pub record Builds {K : Type 0} (ends : K → List ℕ) (R : Graph → Path K) (room : ℕ) : Type 0 where
  pub build : (at : ℕ) (k : K) → Built ends R room at k
