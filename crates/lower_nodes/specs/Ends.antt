-- The numbers of the nodes where a part of a text goes on.
use Rattle.std.specs.Prelude.{ℕ, ◌<◌, List, [], ◌∷◌}
use Rattle.lower_relation.specs.Paths.{Exits, Ways}
use Rattle.lower_nodes.specs.declared.purpose.Purpose.{Purpose}
use Rattle.lower_nodes.specs.declared.purpose.Purpose.TheVariants as purpose

-- each of these lies below a number
abbrev pub AllBelow : ℕ → List ℕ → Type 0
AllBelow n [] = Unit {0}
AllBelow n (x ∷ xs) = (x < n) × AllBelow n xs

-- the part leads nowhere
abbrev pub no_ends : {K : Type 0} → K → List ℕ
no_ends k = []

-- to one node
abbrev pub one_end : ℕ → List ℕ
one_end k = k ∷ []

-- to one of two
abbrev pub two_ends : Ways → List ℕ
two_ends w = w.yes_to ∷ w.no_to ∷ []

-- to where the value of an expression is wanted
abbrev pub purpose_ends : Purpose → List ℕ
purpose_ends (purpose.Value next) = next ∷ []
purpose_ends (purpose.Effect next) = next ∷ []
purpose_ends (purpose.Truth yes_at no_at) = yes_at ∷ no_at ∷ []

-- to where a statement is left
abbrev pub all_ends : Exits → List ℕ
all_ends x = x.next ∷ x.breaks ∷ x.continues ∷ x.gives ∷ x.leaves ∷ []

-- of whatever form they are
abbrev pub Any : {K : Type 0} → K → K → Type 0
Any k l = Unit {0}

-- a value that is wanted for the same
abbrev pub WantedAlike : Purpose → Purpose → Type 0
WantedAlike (purpose.Value next) (purpose.Value other) = Unit {0}
WantedAlike (purpose.Effect next) (purpose.Effect other) = Unit {0}
WantedAlike (purpose.Truth yes_at no_at) (purpose.Truth other_yes other_no) = Unit {0}
WantedAlike p q = ⊥
