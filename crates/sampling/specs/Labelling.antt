-- What each node of a sampled function stands for.
use Rattle.std.specs.Prelude.{◌≡◌, ℕ, List, Bool, slice_get}
use Rattle.flow.specs.declared.node.Node.{Node}
use Rattle.flow.specs.declared.node.View.{View}
use Rattle.regions.specs.Blocks.{NodeLeadsTo}
use Rattle.regions.specs.Weighty.{views_of}
use Rattle.clone_paths.specs.Cloned.{NodesCloned}

-- control may come from the entry to the node
pub data IsReached (at : ℕ → View) : ℕ → Type 0 where
  Entry : IsReached at 0
  Later : {next : ℕ} (place : ℕ) → IsReached at place → NodeLeadsTo at place next → IsReached at next

-- a function and its copies leave no choice of what the nodes that control may reach stand for: two labellings that fit agree on them
abbrev pub OneLabelling : Type 0
OneLabelling =
    (weighty : ℕ → Bool) (nodes cloned : List Node) (one other : NodesCloned weighty nodes cloned) (place : ℕ) → IsReached (views_of cloned) place →
    slice_get one.labels place ≡ slice_get other.labels place
