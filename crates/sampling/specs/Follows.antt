-- When a state of the sampled program follows one of the full program. The state of the sampled program is built from the other: they share the
-- running functions, operands, locals, objects, input, output and turns.
use Rattle.std.specs.Prelude.{◌≡◌, ℕ, ◌+◌, ◌<◌, List, [], ◌∷◌, true, false, Option, None, Some}
use Rattle.flow.specs.State.{Frame, State, Watch}
use Rattle.weights.specs.Paths.{IsPath, marks_on}
use Rattle.copied_nodes.specs.declared.label.CopyLabel.TheVariants.{Back}
use Rattle.copied_nodes.specs.declared.label.Side.{Side}
use Rattle.copied_nodes.specs.declared.label.Side.TheVariants.{Fast, Slow}
use Rattle.clone_paths.specs.Form.{StandsForNode, MayOwe}
use Rattle.sampling.specs.Copies.{Copies, cloning}
use Rattle.sampling.specs.Tally.{Tally}

-- what a function that waits has of its own in the sampled program: its node, and its copy of the countdown
pub record Spot : Type 0 where
  pub node : ℕ
  pub copy : Option ℕ

-- what the sampled program's state has of its own: the node, the copy of the countdown, where the other functions wait, and the watch
pub record OwnState : Type 0 where
  pub node : ℕ
  pub copy : Option ℕ
  pub spots : List Spot
  pub watch : Watch

abbrev pub frames_at_spots : List Frame → List Spot → List Frame
frames_at_spots [] spots = []
frames_at_spots (f ∷ below) [] = []
frames_at_spots (f ∷ below) (spot ∷ spots) = record f { node = spot.node; copy = spot.copy } ∷ frames_at_spots below spots

-- the state of the sampled program beside this one
abbrev pub sampled_state : State → OwnState → State
sampled_state s own = record s { node = own.node; copy = own.copy; below = frames_at_spots s.below own.spots; watch = own.watch }

-- no path from the node within its region visits as many sites as the countdown says
abbrev pub IsAbove : Copies → ℕ → ℕ → ℕ → Type 0
IsAbove t countdown function node =
    (rest : List ℕ) → IsPath t.weighty (t.full.at function) node rest → marks_on (t.full.at function) node rest < countdown

-- in the fast copy no test is needed before the region's end
abbrev pub MayRun : Side → Copies → ℕ → ℕ → ℕ → Type 0
MayRun Fast t countdown function node = IsAbove t countdown function node
MayRun Slow t countdown function node = Unit {0}

-- the functions that wait for a weighty one: each is weighty, has given its copy of the countdown back, and will go on at a return
abbrev pub Returns : Copies → List Frame → List Spot → Type 0
Returns t [] [] = Unit {0}
Returns t (f ∷ below) (spot ∷ spots) =
    (t.weighty f.function ≡ true) × (t.label f.function spot.node ≡ Some (Back f.node)) × (spot.copy ≡ None) × Returns t below spots
Returns t below spots = ⊥

-- a function that runs, or waits for a weightless one: a weighty one is in a copy of itself, where its copy of the countdown is the countdown in
-- force and what is owed, and all functions below it wait for a weighty one; a weightless one is at the same node
pub data RunsBeside (t : Copies) (countdown function node place : ℕ) (copy : Option ℕ) (Below Waits : Type 0) : Type 0 where
  Copied : (side : Side) (owed : ℕ) → t.weighty function ≡ true → MayOwe side owed → StandsForNode (cloning t function) side place node owed →
      copy ≡ Some (countdown + owed) → MayRun side t countdown function node → Below → RunsBeside t countdown function node place copy Below Waits
  Weightless : t.weighty function ≡ false → place ≡ node → copy ≡ None → Waits → RunsBeside t countdown function node place copy Below Waits

-- the functions that wait for a weightless one, down to the topmost weighty one; where there is none, the shared countdown is in force
abbrev pub Waits : Copies → ℕ → ℕ → List Frame → List Spot → Type 0
Waits t countdown shared [] [] = shared ≡ countdown
Waits t countdown shared (f ∷ below) (spot ∷ spots) =
    RunsBeside t countdown f.function f.node spot.node spot.copy (Returns t below spots) (Waits t countdown shared below spots)
Waits t countdown shared below spots = ⊥

-- the sampled program's state beside this one follows it, with this countdown in force
pub record Follows (t : Copies) (s : State) (own : OwnState) : Type 0 where
  pub countdown : ℕ
  pub tally : Tally t.full.bank s.watch.seen own.watch.seen countdown own.watch.drawn
  pub stands : RunsBeside t countdown s.function s.node own.node own.copy (Returns t s.below own.spots)
      (Waits t countdown own.watch.countdown s.below own.spots)
