-- What the clones need to know of each node.
use Rattle.std.specs.Prelude.{Option, None, Some, ◌≡◌, ◌⊎◌, ℕ, ◌+◌, ◌<◌, ◌≤◌, List, [], ◌∷◌, length, Bool, true, false, not, if◌then◌else◌}
use Rattle.std.specs.Prelude.{slice_index}
use Rattle.flow.specs.declared.node.Node.{Node}
use Rattle.flow.specs.declared.node.View.{View}
use Rattle.flow.specs.declared.node.View.TheVariants.{Marks, Calls, Gives, Quits, Turns}
use Rattle.regions.specs.Blocks.{NodeLeadsTo}
use Rattle.regions.specs.Flags.{is_in}
use Rattle.regions.specs.Weighty.{views_of}
use Rattle.weights.specs.Paths.{mark_count}
use Rattle.clone_paths.specs.declared.parts.Outlet.{Outlet}
use Rattle.clone_paths.specs.declared.parts.Outlet.TheVariants as outlet
use Rattle.clone_paths.specs.declared.parts.Part.{Part}
pub use Rattle.copied_nodes.specs.Outlets.{is_debt_paid}

-- what is owed before each node of a fast copy: the visits since its block began
pub record AreDebts (nodes : List Node) (starts : List Bool) (debts : List ℕ) : Type 0 where
  pub few : length debts ≡ length nodes
  pub none : (place : ℕ) → is_in starts place ≡ true → slice_index debts place ≡ 0
  pub more : (place next : ℕ) → NodeLeadsTo (views_of nodes) place next → is_in starts next ≡ false →
      slice_index debts next ≡ slice_index debts place + mark_count (views_of nodes place)
  pub small : (place : ℕ) → slice_index debts place ≤ place

abbrev pub outlet_of : (ℕ → Bool) → View → Outlet
outlet_of weighty Gives = outlet.Leaves
outlet_of weighty Quits = outlet.Leaves
outlet_of weighty (Calls function next) = if weighty function then outlet.Calls next else outlet.None
outlet_of weighty other = outlet.None

-- a visit of a site within a block
abbrev pub is_inside : (ℕ → Bool) → View → Bool
is_inside starts (Marks site next) = not (starts next)
is_inside starts other = false

abbrev pub part_of_node : (ℕ → Bool) → (ℕ → Bool) → ℕ → View → Part
part_of_node weighty starts owed v = record { inside = is_inside starts v; owed = owed; pays = is_debt_paid starts owed v; outlet = outlet_of weighty v }

-- the one node of these, where no block begins there
abbrev pub next_inside : (ℕ → Bool) → List ℕ → Option ℕ
next_inside starts (next ∷ []) = if starts next then None else Some next
next_inside starts other = None

-- nodes lead to nodes of the function; within a block, to later ones
pub record HasOrder (nodes : List Node) : Type 0 where
  pub within : (place next : ℕ) → NodeLeadsTo (views_of nodes) place next → next < length nodes
  pub later : (place next : ℕ) → NodeLeadsTo (views_of nodes) place next → place < next ⊎ ((again : ℕ) × (views_of nodes place ≡ Turns again))
