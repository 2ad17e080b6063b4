-- The nodes of a sampled function, from where the copies of each node stand.
use Rattle.std.specs.Prelude.{◌≡◌, ℕ, ◌+◌, ◌<◌, List, Bool, if◌then◌else◌, slice_index}
use Rattle.flow.specs.declared.node.Node.{Node}
use Rattle.flow.specs.declared.node.View.{View}
use Rattle.flow.specs.declared.node.View.TheVariants.{Row, Forks, Turns, Calls, Marks, Skips, Tests, Picks, Imports, Exports}
use Rattle.flow.specs.Words.{node_limit, view}
use Rattle.regions.specs.Flags.{is_in}
use Rattle.regions.specs.Weighty.{views_of}
use Rattle.copied_nodes.specs.declared.label.CopyLabel.{CopyLabel}
use Rattle.copied_nodes.specs.declared.label.CopyLabel.TheVariants.{Enter, Gate, Back, In, Out}
use Rattle.copied_nodes.specs.declared.label.Side.{Side}
use Rattle.copied_nodes.specs.declared.label.Side.TheVariants.{Fast, Slow}
use Rattle.copied_nodes.specs.declared.nodes.Source.{Source}
use Rattle.copied_nodes.specs.Outlets.{is_debt_paid, is_outlet}
use Rattle.copied_nodes.specs.Sheet.{Sheet, place_in_copy}

-- what is known of the original function's nodes, and where the choice before each and its copies stand
pub record Tables : Type 0 where
  pub weighty : ℕ → Bool
  pub at : ℕ → View
  pub starts : ℕ → Bool
  pub weight : ℕ → ℕ
  pub sheet : Sheet

abbrev pub tables_of : List Bool → List Node → List Bool → List ℕ → Sheet → Tables
tables_of weighty nodes starts weights s = record {
  weighty = is_in weighty;
  at = views_of nodes;
  starts = is_in starts;
  weight = λ node. slice_index weights node;
  sheet = s;
}

-- the same node within the copy
abbrev pub made_same : Tables → Side → View → View
made_same t side (Row op next) = Row op (place_in_copy t.sheet side next)
made_same t side (Forks when_true when_false) = Forks (place_in_copy t.sheet side when_true) (place_in_copy t.sheet side when_false)
made_same t side (Turns next) = Turns (slice_index t.sheet.gates next)
made_same t side (Calls function next) = Calls function (place_in_copy t.sheet side next)
made_same t side other = other

abbrev pub made_free : Tables → Side → ℕ → View → View
made_free t side place v = if is_outlet t.weighty v then Exports (place + 1) else made_same t side v

-- what is owed is paid before it
abbrev pub made_paid : Tables → Side → ℕ → ℕ → View → View
made_paid t side owed place v = if is_debt_paid t.starts owed v then Skips owed (place + 1) else made_free t side place v

abbrev pub made_visit : Sheet → Side → ℕ → ℕ → ℕ → View
made_visit sheet Slow owed site next = Tests site (place_in_copy sheet Slow next)
made_visit sheet Fast owed site next = Skips (owed + 1) (place_in_copy sheet Fast next)

abbrev pub made_in : Tables → Side → ℕ → ℕ → View → View
made_in t side owed place (Marks site next) = made_visit t.sheet side owed site next
made_in t side owed place v = made_paid t side owed place v

abbrev pub made_out : ℕ → View → View
made_out place (Calls function next) = Calls function (place + 1)
made_out place v = v

-- the node with this label at the place
abbrev pub made_node : Tables → ℕ → CopyLabel → View
made_node t place Enter = Imports (slice_index t.sheet.gates 0)
made_node t place (Gate node) = Picks (t.weight node) (place_in_copy t.sheet Fast node) (place_in_copy t.sheet Slow node)
made_node t place (Back node) = Imports (slice_index t.sheet.gates node)
made_node t place (In side node owed) = made_in t side owed place (t.at node)
made_node t place (Out side node) = made_out place (t.at node)

-- the label is that of one of so many nodes
abbrev pub IsLabelOfNode : ℕ → CopyLabel → Type 0
IsLabelOfNode nodes (In side node owed) = (node < nodes) × (owed < node_limit)
IsLabelOfNode nodes (Out side node) = node < nodes
IsLabelOfNode nodes other = Unit {0}

-- a node with its label
abbrev pub IsMade : Tables → ℕ → CopyLabel → Node → Type 0
IsMade t place label node = view node ≡ made_node t place label

-- what the code knows of a function, beside where its copies stand
abbrev pub source_tables : Source → Sheet → Tables
source_tables s sheet = tables_of s.weighty.now s.nodes.now s.starts.now s.weights.now sheet
