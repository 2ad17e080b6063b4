-- By which nodes control leaves a function or a basic block, and before which ones a fast copy pays what it owes.
use Rattle.std.specs.Prelude.{ℕ, List, [], ◌∷◌, Bool, true, false, ◌||◌, ◌&&◌, nat_lt}
use Rattle.flow.specs.declared.node.View.{View}
use Rattle.flow.specs.declared.node.View.TheVariants.{Calls, Gives, Quits, Marks}
use Rattle.flow.specs.Nodes.{led_to}

-- control leaves the block after this node: it leads nowhere, or to a node at which a block begins
abbrev pub is_last : (ℕ → Bool) → List ℕ → Bool
is_last starts [] = true
is_last starts (next ∷ []) = starts next
is_last starts (first ∷ second ∷ rest) = starts first || is_last starts (second ∷ rest)

-- by this node control leaves the function, or calls a weighty one
abbrev pub is_outlet : (ℕ → Bool) → View → Bool
is_outlet weighty Gives = true
is_outlet weighty Quits = true
is_outlet weighty (Calls function next) = weighty function
is_outlet weighty other = false

-- a node before which what is owed is paid by a node of its own
abbrev pub is_debt_paid : (ℕ → Bool) → ℕ → View → Bool
is_debt_paid starts owed (Marks site next) = false
is_debt_paid starts owed v = nat_lt 0 owed && is_last starts (led_to v)
