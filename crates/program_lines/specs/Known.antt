-- The names that functions have so far.
use Rattle.std.specs.Prelude.{◌≡◌, ◌⊎◌, ◌↔◌, ℕ, List, [], ◌∷◌, map}
use Rattle.flow.specs.Spelling.{Head}

-- the name is one of these
abbrev pub Knows : List (List ℕ) → List ℕ → Type 0
Knows [] name = ⊥
Knows (x ∷ more) name = (x ≡ name) ⊎ Knows more name

-- these are the names of the functions
abbrev pub AreNamesOf : List Head → List (List ℕ) → Type 0
AreNamesOf heads names = (name : List ℕ) → Knows names name ↔ Knows (map (λ h. h.name) heads) name
