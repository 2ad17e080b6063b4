-- The fast copy of a function looks at no site (PLDI 2003 section 2: it only keeps the countdown).
use Rattle.std.specs.Prelude.{◌≡◌, ℕ, List, Bool, Option, None, Some, Contains, slice_get}
use Rattle.flow.specs.declared.node.Node.{Node}
use Rattle.flow.specs.declared.node.View.{View}
use Rattle.flow.specs.declared.node.View.TheVariants.{Marks, Tests, Picks}
use Rattle.regions.specs.Weighty.{views_of}
use Rattle.weights.specs.Paths.{next_nodes}
use Rattle.copied_nodes.specs.declared.label.CopyLabel.{CopyLabel}
use Rattle.copied_nodes.specs.declared.label.CopyLabel.TheVariants.{In, Out}
use Rattle.copied_nodes.specs.declared.label.Side.{Side}
use Rattle.copied_nodes.specs.declared.label.Side.TheVariants.{Fast}
use Rattle.clone_paths.specs.Cloned.{NodesCloned}

-- the copy in which a node stands
abbrev pub side_of : CopyLabel → Option Side
side_of (In side node owed) = Some side
side_of (Out side node) = Some side
side_of other = None

-- the node neither visits nor tests a site
abbrev pub LooksAtNothing : View → Type 0
LooksAtNothing (Marks site next) = ⊥
LooksAtNothing (Tests site next) = ⊥
LooksAtNothing other = Unit {0}

-- no node of the fast copy visits or tests a site
abbrev pub FastLooksAtNothing : Type 0
FastLooksAtNothing =
    (weighty : ℕ → Bool) (nodes cloned : List Node) (c : NodesCloned weighty nodes cloned) (place : ℕ) (l : CopyLabel) →
    slice_get c.labels place ≡ Some l → side_of l ≡ Some Fast → LooksAtNothing (views_of cloned place)

-- a path within a region leads from the one node to the other
pub data IsOnPath (weighty : ℕ → Bool) (at : ℕ → View) (first : ℕ) : ℕ → Type 0 where
  First : IsOnPath weighty at first first
  Later : {next : ℕ} (place : ℕ) → IsOnPath weighty at first place → Contains (next_nodes weighty (at place)) next → IsOnPath weighty at first next

-- from where the fast copy is chosen, no site is visited or tested to the end of the region
abbrev pub FastWaysLookAtNothing : Type 0
FastWaysLookAtNothing =
    (weighty : ℕ → Bool) (nodes cloned : List Node) → NodesCloned weighty nodes cloned → (place weight fast slow node : ℕ) →
    views_of cloned place ≡ Picks weight fast slow → IsOnPath weighty (views_of cloned) fast node → LooksAtNothing (views_of cloned node)
