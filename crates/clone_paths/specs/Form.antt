-- What each node of a sampled function is, by its label (PLDI 2003 section 2; where a countdown is copied, and where lowerings are put
-- together, is this project's). Control chooses a copy at the head of each region. The slow copy has a test for each visit of a site; the fast
-- one lowers the countdown once for all visits of a basic block.
use Rattle.std.specs.Prelude.{◌≡◌, ℕ, zero, suc, ◌+◌, Bool, true, false, Option, Some}
use Rattle.std.specs.Bool.{MatchBool}
use Rattle.flow.specs.declared.node.View.{View}
use Rattle.flow.specs.declared.node.View.TheVariants.{Row, Halts, Forks, Turns, Calls, Marks, Skips, Tests, Picks, Imports, Exports}
use Rattle.flow.specs.Nodes.{led_to}
use Rattle.weights.specs.Weight.{IsWeight}
use Rattle.copied_nodes.specs.declared.label.CopyLabel.{CopyLabel}
use Rattle.copied_nodes.specs.declared.label.CopyLabel.TheVariants.{Enter, Gate, Back, In, Out}
use Rattle.copied_nodes.specs.declared.label.Side.{Side}
use Rattle.copied_nodes.specs.declared.label.Side.TheVariants.{Fast, Slow}
pub use Rattle.copied_nodes.specs.Outlets.{is_last, is_outlet}

-- a function and its copies: which functions are weighty, how control goes on at each node of the original function, where its blocks begin, and
-- what the nodes of the sampled function are labelled
pub record Cloning : Type 0 where
  pub weighty : ℕ → Bool
  pub at : ℕ → View
  pub starts : ℕ → Bool
  pub label : ℕ → Option CopyLabel

-- the node at the place stands for the node in a copy, owing so much. A visit within a block has no node in the fast copy: what stands for the
-- node after it owes one more.
pub data StandsForNode (t : Cloning) (side : Side) (place : ℕ) : ℕ → ℕ → Type 0 where
  Here : {node owed : ℕ} → t.label place ≡ Some (In side node owed) → StandsForNode t side place node owed
  Owed : {node owed : ℕ} (site next : ℕ) → side ≡ Fast → t.at node ≡ Marks site next → t.starts next ≡ false → StandsForNode t side place next (suc owed) →
      StandsForNode t side place node owed

-- the slow copy owes nothing
abbrev pub MayOwe : Side → ℕ → Type 0
MayOwe Fast owed = Unit {0}
MayOwe Slow owed = owed ≡ 0

-- the same node within the copy, but that a turn leads to the choice before its successor
abbrev pub IsSame : Cloning → Side → ℕ → View → View → Type 0
IsSame t side owed (Row op next) q = (m : ℕ) × (q ≡ Row op m) × StandsForNode t side m next owed
IsSame t side owed (Halts op) q = q ≡ Halts op
IsSame t side owed (Forks when_true when_false) q = (m n : ℕ) × (q ≡ Forks m n) × StandsForNode t side m when_true owed × StandsForNode t side n when_false owed
IsSame t side owed (Turns next) q = (m : ℕ) × (q ≡ Turns m) × (t.label m ≡ Some (Gate next))
IsSame t side owed (Calls function next) q = (m : ℕ) × (q ≡ Calls function m) × StandsForNode t side m next owed
IsSame t side owed other q = ⊥

-- where nothing is owed: before an outlet the copy of the countdown is given back
abbrev pub IsOwingNothing : Cloning → Side → ℕ → View → View → Type 0
IsOwingNothing t side node v q = MatchBool (is_outlet t.weighty v) ((m : ℕ) × (q ≡ Exports m) × (t.label m ≡ Some (Out side node))) (IsSame t side 0 v q)

-- what is owed is paid by one node at the end of the block
abbrev pub IsOwing : Cloning → Side → ℕ → ℕ → View → View → Type 0
IsOwing t side node zero v q = IsOwingNothing t side node v q
IsOwing t side node (suc owed) v q =
    MatchBool (is_last t.starts (led_to v)) ((m : ℕ) × (q ≡ Skips (suc owed) m) × StandsForNode t side m node 0) (IsSame t side (suc owed) v q)

-- a visit of a site is tested in the slow copy, and pays what is owed in the fast one, where it is the last node of its block
abbrev pub IsVisit : Cloning → Side → ℕ → ℕ → ℕ → View → Type 0
IsVisit t Slow owed site next q = (m : ℕ) × (q ≡ Tests site m) × StandsForNode t Slow m next 0
IsVisit t Fast owed site next q = (m : ℕ) × (t.starts next ≡ true) × (q ≡ Skips (owed + 1) m) × StandsForNode t Fast m next 0

abbrev pub IsNodeInCopy : Cloning → Side → ℕ → ℕ → View → View → Type 0
IsNodeInCopy t side node owed (Marks site next) q = IsVisit t side owed site next q
IsNodeInCopy t side node owed v q = IsOwing t side node owed v q

-- the outlet itself
abbrev pub IsOutletInCopy : Cloning → View → View → Type 0
IsOutletInCopy t (Calls function next) q = (m : ℕ) × (q ≡ Calls function m) × (t.label m ≡ Some (Back next))
IsOutletInCopy t v q = q ≡ v

-- what a node is by its label
abbrev pub IsAsLabelled : Cloning → CopyLabel → View → Type 0
IsAsLabelled t Enter q = (m : ℕ) × (q ≡ Imports m) × (t.label m ≡ Some (Gate 0))
IsAsLabelled t (Gate node) q =
    (weight fast slow : ℕ) × (q ≡ Picks weight fast slow) × IsWeight t.weighty t.at node weight × StandsForNode t Fast fast node 0
    × StandsForNode t Slow slow node 0
IsAsLabelled t (Back node) q = (m : ℕ) × (q ≡ Imports m) × (t.label m ≡ Some (Gate node))
IsAsLabelled t (In side node owed) q = MayOwe side owed × IsNodeInCopy t side node owed (t.at node) q
IsAsLabelled t (Out side node) q = (is_outlet t.weighty (t.at node) ≡ true) × IsOutletInCopy t (t.at node) q
