-- The weight of a node: the greatest number of visits of sites on a path from it, itself included (PLDI 2003 section 2.2).
use Rattle.std.specs.Prelude.{◌≡◌, ℕ, ◌+◌, ◌<◌, ◌≤◌, max, List, [], ◌∷◌, length, Bool, Vec, slice_index, Contains}
use Rattle.std.specs.declared.alloc.Global.{Global}
use Rattle.flow.specs.declared.node.Node.{Node}
use Rattle.flow.specs.declared.node.View.{View}
use Rattle.flow.specs.declared.program.Function.{Function}
use Rattle.regions.specs.Flags.{is_in}
use Rattle.regions.specs.Weighty.{views_of}
use Rattle.weights.specs.Paths.{IsPath, mark_count, marks_on, next_nodes}

-- no path has more, and some path has as many
pub record IsWeight (weighty : ℕ → Bool) (at : ℕ → View) (place weight : ℕ) : Type 0 where
  pub most : (rest : List ℕ) → IsPath weighty at place rest → marks_on at place rest ≤ weight
  pub some : List ℕ
  pub path : IsPath weighty at place some
  pub is : marks_on at place some ≡ weight

abbrev pub OneWeight : Type 0
OneWeight = (weighty : ℕ → Bool) (at : ℕ → View) (place one other : ℕ) → IsWeight weighty at place one → IsWeight weighty at place other → one ≡ other

-- the weights of a function's nodes; no node has more than there are nodes from it on
pub record AreWeights (weighty : ℕ → Bool) (nodes : List Node) (weights : List ℕ) : Type 0 where
  pub few : length weights ≡ length nodes
  pub each : (place : ℕ) → place < length nodes → IsWeight weighty (views_of nodes) place (slice_index weights place)
  pub small : (place : ℕ) → place < length nodes → slice_index weights place + place ≤ length nodes

abbrev pub WeightsFit : List Bool → ℕ → Function → Vec ℕ Global → Type 0
WeightsFit weighty number f weights = AreWeights (is_in weighty) f.nodes weights.items

-- a path goes to later nodes alone
pub record IsForward (weighty : ℕ → Bool) (nodes : List Node) : Type 0 where
  pub later : (place next : ℕ) → Contains (next_nodes weighty (views_of nodes place)) next → place < next
  pub within : (place next : ℕ) → Contains (next_nodes weighty (views_of nodes place)) next → next < length nodes

-- the greatest of the weights of these nodes
abbrev pub greatest_weight : (ℕ → ℕ) → List ℕ → ℕ
greatest_weight weight [] = 0
greatest_weight weight (place ∷ places) = max (weight place) (greatest_weight weight places)

-- the weight of a node, from those of the nodes to which a path goes on
abbrev pub weight_from : (ℕ → Bool) → (ℕ → ℕ) → View → ℕ
weight_from weighty weight v = greatest_weight weight (next_nodes weighty v) + mark_count v
