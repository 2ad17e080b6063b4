-- The labels of a sampled function, and where the copies of each node stand.
use Rattle.std.specs.Prelude.{ℕ, List, slice_index}
use Rattle.copied_nodes.specs.declared.label.CopyLabel.{CopyLabel}
use Rattle.copied_nodes.specs.declared.label.Side.{Side}
use Rattle.copied_nodes.specs.declared.label.Side.TheVariants.{Fast, Slow}
use Rattle.copied_nodes.specs.declared.layout.Layout.{Layout}

-- the labels so far, and where the choice before each node and its copies stand
pub record Sheet : Type 0 where
  pub labels : List CopyLabel
  pub gates : List ℕ
  pub slow : List ℕ
  pub fast : List ℕ

-- where a node stands in a copy
abbrev pub place_in_copy : Sheet → Side → ℕ → ℕ
place_in_copy s Fast node = slice_index s.fast node
place_in_copy s Slow node = slice_index s.slow node

abbrev pub sheet_of : Layout → Sheet
sheet_of l = record { labels = l.labels.items; gates = l.gates.items; slow = l.slow.items; fast = l.fast.items }
