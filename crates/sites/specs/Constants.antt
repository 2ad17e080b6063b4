-- The distinct constants of a body.
use Rattle.std.specs.Prelude.{ℤ, if◌then◌else◌, List, [], ◌∷◌, ◌++◌}
use Rattle.std.specs.List.{list_any}
use Rattle.std.specs.Ordering.{int_eq}
use Rattle.sites.specs.declared.spots.Spot.{Spot}
use Rattle.sites.specs.declared.spots.Spot.TheVariants as spot

-- the values of the constants among these spots that don't stand before, each where it stands first
abbrev pub new_constants : List ℤ → List Spot → List ℤ
new_constants before [] = []
new_constants before (spot.Constant value ∷ rest) =
    if list_any (int_eq value) before then new_constants before rest else value ∷ new_constants (before ++ value ∷ []) rest
new_constants before (other ∷ rest) = new_constants before rest

-- the distinct values of a body's constants, in order of first occurrence
abbrev pub constants_of : List Spot → List ℤ
constants_of spots = new_constants [] spots
