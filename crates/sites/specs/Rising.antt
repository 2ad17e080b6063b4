-- Sites in the order of their tokens.
use Rattle.std.specs.Prelude.{ℕ, ◌≤◌, ◌<◌, List, [], ◌∷◌}
use Rattle.flow.specs.declared.site.Site.{Site}

-- their tokens never fall, and are from `low` on and below `high`
abbrev pub RisesWithin : ℕ → ℕ → List Site → Type 0
RisesWithin low high [] = low ≤ high
RisesWithin low high (s ∷ rest) = (low ≤ s.token) × (s.token < high) × RisesWithin s.token high rest
