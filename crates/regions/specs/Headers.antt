-- Where the regions of a weighty function begin (PLDI 2003 section 2.2): where it is entered, after each turn of a loop, and after each call of
-- a weighty function. There the sampled program looks at the countdown.
use Rattle.std.specs.Prelude.{◌≡◌, ℕ, Bool, true, List, length, if◌then◌else◌, Option, None, Some, Vec}
use Rattle.std.specs.declared.alloc.Global.{Global}
use Rattle.flow.specs.declared.node.View.{View}
use Rattle.flow.specs.declared.node.View.TheVariants.{Turns, Calls}
use Rattle.flow.specs.declared.program.Function.{Function}
use Rattle.regions.specs.Flags.{AreFlags, is_in}
use Rattle.regions.specs.Weighty.{views_of}

-- the node that follows, where a region begins there
abbrev pub begun_after : (ℕ → Bool) → View → Option ℕ
begun_after weighty (Turns next) = Some next
begun_after weighty (Calls function next) = if weighty function then Some next else None
begun_after weighty other = None

-- a region of a weighty function begins at the node
pub data IsHeader (weighty : ℕ → Bool) (at : ℕ → View) : ℕ → Type 0 where
  Entry : IsHeader weighty at 0
  After : {next : ℕ} (place : ℕ) → begun_after weighty (at place) ≡ Some next → IsHeader weighty at next

-- a weightless function has no regions
abbrev pub IsHeaderOf : (ℕ → Bool) → ℕ → Function → ℕ → Type 0
IsHeaderOf weighty number f place = (weighty number ≡ true) × IsHeader weighty (views_of f.nodes) place

-- the flags of a function's nodes at which a region begins
abbrev pub HeadersFit : List Bool → ℕ → Function → Vec Bool Global → Type 0
HeadersFit weighty number f flags = AreFlags (length f.nodes) (IsHeaderOf (is_in weighty) number f) flags.items
