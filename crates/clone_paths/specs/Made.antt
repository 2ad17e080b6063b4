-- The labels of a function's nodes, and what a visit within a block becomes.
use Rattle.std.specs.Prelude.{Option, None, Some, ◌≡◌, ℕ, zero, suc, ◌<◌, List, length, Bool, false, if◌then◌else◌, slice_index}
use Rattle.flow.specs.declared.node.Node.{Node}
use Rattle.flow.specs.declared.node.View.{View}
use Rattle.flow.specs.declared.node.View.TheVariants.{Marks}
use Rattle.regions.specs.Flags.{is_in}
use Rattle.regions.specs.Weighty.{views_of}
use Rattle.clone_paths.specs.declared.parts.Part.{Part}
use Rattle.clone_paths.specs.Layout.{Sheet, entry_alone, with_node_labels}
use Rattle.clone_paths.specs.Parts.{is_inside, part_of_node}
pub use Rattle.copied_nodes.specs.Made.{IsLabelOfNode, IsMade, Tables, made_free, made_in, made_node, made_out, made_paid, made_same, made_visit, tables_of}

-- the node to which a visit within a block leads
abbrev pub next_visited : (ℕ → Bool) → View → Option ℕ
next_visited starts (Marks site next) = if starts next then None else Some next
next_visited starts other = None

-- a visit within a block has the place of the node after it
pub record Resolved (starts : List Bool) (nodes : List Node) (old new : List ℕ) : Type 0 where
  pub few : length new ≡ length old
  pub other : (place : ℕ) → is_inside (is_in starts) (views_of nodes place) ≡ false → slice_index new place ≡ slice_index old place
  pub inside : (place site next : ℕ) → place < length nodes → views_of nodes place ≡ Marks site next → is_in starts next ≡ false →
      slice_index new place ≡ slice_index new next

-- the labels of a function's nodes, so many of them
abbrev pub sheet_at : (ℕ → Bool) → (ℕ → Part) → ℕ → Sheet
sheet_at header part zero = entry_alone
sheet_at header part (suc count) = with_node_labels (header count) count (part count) (sheet_at header part count)

-- what the clones need to know of each node, from what is owed before it
abbrev pub parts_from : List Bool → List Node → List Bool → List ℕ → ℕ → Part
parts_from weighty nodes starts debts place = part_of_node (is_in weighty) (is_in starts) (slice_index debts place) (views_of nodes place)
