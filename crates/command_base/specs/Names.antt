-- The names that a command reads, in the order of its reads.
use Rattle.std.specs.Prelude.{◌≡◌, ◌⊎◌, ℕ, List, [], ◌∷◌, Option}
use Rattle.std.specs.List.{AllByRecursion}
use Rattle.cbi_base.specs.Store.{Held, IsHeld}

-- one of the names
abbrev pub IsOneOf : List (List ℕ) → List ℕ → Type 0
IsOneOf [] name = ⊥
IsOneOf (first ∷ more) name = (name ≡ first) ⊎ IsOneOf more name

-- each of the names is held
abbrev pub AreHeld : Option Held → List (List ℕ) → Type 0
AreHeld held names = AllByRecursion (IsHeld held) names

-- the first of the names that isn't held
abbrev pub IsFirstMissing : Option Held → List (List ℕ) → List ℕ → Type 0
IsFirstMissing held [] name = ⊥
IsFirstMissing held (first ∷ more) name = ((name ≡ first) × (¬ IsHeld held first)) ⊎ (IsHeld held first × IsFirstMissing held more name)
