-- Where control passes the choice of a copy (PLDI 2003 section 2.2).
use Rattle.std.specs.Prelude.{◌≡◌, ℕ, List, Bool, true, false}
use Rattle.flow.specs.declared.node.Node.{Node}
use Rattle.flow.specs.declared.node.View.{View}
use Rattle.flow.specs.declared.node.View.TheVariants.{Turns, Calls, Picks, Imports}
use Rattle.regions.specs.Blocks.{NodeLeadsTo}
use Rattle.regions.specs.Weighty.{views_of}
use Rattle.clone_paths.specs.Cloned.{NodesCloned}

-- a choice between the copies
abbrev pub is_choice : View → Bool
is_choice (Picks weight fast slow) = true
is_choice other = false

-- a copy of the countdown is taken
abbrev pub is_import : View → Bool
is_import (Imports next) = true
is_import other = false

-- a region begins after the node: it is a turn of a loop, or takes a copy of the countdown
abbrev pub opens_region : View → Bool
opens_region (Turns next) = true
opens_region (Imports next) = true
opens_region other = false

abbrev pub calls_weighty : (ℕ → Bool) → View → Bool
calls_weighty weighty (Calls function next) = weighty function
calls_weighty weighty other = false

-- control comes to a choice exactly after a turn of a loop and where a copy of the countdown was taken, and that is at the entry and exactly after
-- calls of weighty functions. So where control falls into a loop from above, it passes no choice.
pub record ChoosesAtRegions (weighty : ℕ → Bool) (at : ℕ → View) : Type 0 where
  pub entry : is_import (at 0) ≡ true
  pub choices : (place next : ℕ) → NodeLeadsTo at place next → is_choice (at next) ≡ opens_region (at place)
  pub imports : (place next : ℕ) → NodeLeadsTo at place next → is_import (at next) ≡ calls_weighty weighty (at place)

-- the copies of a weighty function choose so
abbrev pub ChoosesRarely : Type 0
ChoosesRarely = (weighty : ℕ → Bool) (nodes cloned : List Node) → NodesCloned weighty nodes cloned → ChoosesAtRegions weighty (views_of cloned)
