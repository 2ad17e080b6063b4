-- The pairs of two predicates of a list, the earlier one first: in the order of the first place, and then of the second.
use Rattle.std.specs.Prelude.{ℕ, List, [], ◌∷◌, ◌++◌, map}

abbrev pub pairs_of : List ℕ → List (ℕ × ℕ)
pairs_of [] = []
pairs_of (p ∷ more) = map (λ (q : ℕ). (p, q)) more ++ pairs_of more
