-- The cloned form of a program.
use Rattle.std.specs.Prelude.{◌≡◌, ℕ, ◌*◌, ◌<◌, ◌≤◌, List, length, Bool, true, false, Some, slice_get}
use Rattle.std.specs.List.{All, sum_by}
use Rattle.flow.specs.declared.node.Node.{Node}
use Rattle.flow.specs.declared.program.Function.{Function}
use Rattle.flow.specs.declared.program.ProgramParts.{ProgramParts}
use Rattle.flow.specs.declared.scope.Bounds.{Bounds}
use Rattle.flow.specs.declared.scope.Names.{Names}
use Rattle.flow.specs.Words.{NodesFit, ArePlain}
use Rattle.regions.specs.Blocks.{IsStart}
use Rattle.regions.specs.Flags.{AreFlags, is_in}
use Rattle.regions.specs.Rows.{EachFits}
use Rattle.regions.specs.Weighty.{IsWeighty, views_of}
use Rattle.copied_nodes.specs.declared.label.CopyLabel.{CopyLabel}
use Rattle.copied_nodes.specs.declared.label.CopyLabel.TheVariants.{Enter}
use Rattle.clone_paths.specs.Form.{Cloning, IsAsLabelled}

-- the most nodes of a program that is cloned
abbrev pub cloned_limit : ℕ
cloned_limit = 2000000

-- a program that may be cloned
pub record MayClone (p : ProgramParts) : Type 0 where
  pub plain : All (λ f. ArePlain f.nodes) p.functions
  pub few : sum_by (λ f. length f.nodes) p.functions ≤ cloned_limit

abbrev pub cloning_of : (ℕ → Bool) → List Node → List Bool → List CopyLabel → Cloning
cloning_of weighty nodes starts labels =
    record { weighty = weighty; at = views_of nodes; starts = is_in starts; label = slice_get labels }

-- the nodes of a weighty function: each has a label, and is what its label says
pub record NodesCloned (weighty : ℕ → Bool) (nodes cloned : List Node) : Type 0 where
  pub starts : List Bool
  pub are_starts : AreFlags (length nodes) (IsStart (views_of nodes)) starts
  pub labels : List CopyLabel
  pub few : length labels ≡ length cloned
  pub entry : slice_get labels 0 ≡ Some Enter
  pub each : (place : ℕ) (l : CopyLabel) → slice_get labels place ≡ Some l → IsAsLabelled (cloning_of weighty nodes starts labels) l (views_of cloned place)

-- a function keeps all but its nodes; a weightless one keeps these too
pub record FunctionCloned (weighty : ℕ → Bool) (number : ℕ) (f g : Function) : Type 0 where
  pub name : g.name ≡ f.name
  pub value : g.value ≡ f.value
  pub params : g.params ≡ f.params
  pub locals : g.locals ≡ f.locals
  pub weightless : weighty number ≡ false → g.nodes ≡ f.nodes
  pub copied : weighty number ≡ true → NodesCloned weighty f.nodes g.nodes

pub record Cloned (p q : ProgramParts) : Type 0 where
  pub texts : q.texts ≡ p.texts
  pub globals : q.globals ≡ p.globals
  pub main : q.main ≡ p.main
  pub sites : q.sites ≡ p.sites
  pub weighty : List Bool
  pub are_weighty : AreFlags (length p.functions) (IsWeighty p) weighty
  pub functions : EachFits (FunctionCloned (is_in weighty)) p.functions q.functions

-- at most eight nodes for each node
abbrev pub IsSmall : ProgramParts → ProgramParts → Type 0
IsSmall p q = sum_by (λ f. length f.nodes) q.functions ≤ 8 * sum_by (λ f. length f.nodes) p.functions

-- where the nodes of a function fit, so do those of its copies
pub record FitsLike (nodes cloned : List Node) : Type 0 where
  pub entry : 0 < length nodes → 0 < length cloned
  pub each : (names : Names) (bounds : Bounds) → bounds.nodes ≡ length nodes → NodesFit names bounds nodes →
      NodesFit names (record bounds { nodes = length cloned }) cloned

abbrev pub StillFits : ℕ → Function → Function → Type 0
StillFits number f g = FitsLike f.nodes g.nodes
