-- Where the basic blocks of a function begin.
use Rattle.std.specs.Prelude.{◌≡◌, ℕ, ◌<◌, Bool, true, false, length, Vec, Contains}
use Rattle.std.specs.declared.alloc.Global.{Global}
use Rattle.flow.specs.declared.node.View.{View}
use Rattle.flow.specs.declared.node.View.TheVariants.{Forks, Turns, Calls, Picks}
use Rattle.flow.specs.declared.program.Function.{Function}
use Rattle.flow.specs.Nodes.{led_to}
use Rattle.regions.specs.Flags.{AreFlags}
use Rattle.regions.specs.Weighty.{views_of}

-- control leaves the block here
abbrev pub ends_block : View → Bool
ends_block (Forks when_true when_false) = true
ends_block (Turns next) = true
ends_block (Calls function next) = true
ends_block (Picks weight fast slow) = true
ends_block other = false

-- the node at the place leads to the other one
abbrev pub NodeLeadsTo : (ℕ → View) → ℕ → ℕ → Type 0
NodeLeadsTo at place next = Contains (led_to (at place)) next

-- a block begins where the function is entered, after a node that ends a block, and where more than one node leads
pub data IsStart (at : ℕ → View) : ℕ → Type 0 where
  Entry : IsStart at 0
  After : {next : ℕ} (place : ℕ) → ends_block (at place) ≡ true → NodeLeadsTo at place next → IsStart at next
  Joins : {next : ℕ} (one other : ℕ) → one < other → NodeLeadsTo at one next → NodeLeadsTo at other next → IsStart at next

-- the flags of a function's nodes at which a block begins
abbrev pub BlocksFit : ℕ → Function → Vec Bool Global → Type 0
BlocksFit number f flags = AreFlags (length f.nodes) (IsStart (views_of f.nodes)) flags.items
