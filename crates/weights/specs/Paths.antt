-- Paths within a region (PLDI 2003 section 2.2): a path goes no further than a turn of a loop, an end of the function, or a call of a weighty
-- function. A call of a weightless function ends no region.
use Rattle.std.specs.Prelude.{ℕ, ◌+◌, List, [], ◌∷◌, Bool, if◌then◌else◌, Contains}
use Rattle.flow.specs.declared.node.View.{View}
use Rattle.flow.specs.declared.node.View.TheVariants.{Turns, Calls, Marks}
use Rattle.flow.specs.Nodes.{led_to}

-- the nodes to which a path may go on
abbrev pub next_nodes : (ℕ → Bool) → View → List ℕ
next_nodes weighty (Turns next) = []
next_nodes weighty (Calls function next) = if weighty function then [] else next ∷ []
next_nodes weighty other = led_to other

-- from the node at this place a path goes through the others
abbrev pub IsPath : (ℕ → Bool) → (ℕ → View) → ℕ → List ℕ → Type 0
IsPath weighty at place [] = Unit {0}
IsPath weighty at place (next ∷ rest) = Contains (next_nodes weighty (at place)) next × IsPath weighty at next rest

-- a node that stands for the visit of a site
abbrev pub mark_count : View → ℕ
mark_count (Marks site next) = 1
mark_count other = 0

-- how many visits of sites there are on a path
abbrev pub marks_on : (ℕ → View) → ℕ → List ℕ → ℕ
marks_on at place [] = mark_count (at place)
marks_on at place (next ∷ rest) = mark_count (at place) + marks_on at next rest
