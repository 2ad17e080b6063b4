-- The next one of a kind of neighbours behind others.
use Rattle.std.specs.Prelude.{◌≡◌, ◌⊎◌, nat_lt, if◌then◌else◌, List, Option, None, Some, All}
use Rattle.affinity.specs.declared.neighbour.Neighbour.{Neighbour}
use Rattle.affinity.specs.Near.{StandsBefore}

abbrev pub better_of : Option Neighbour → Neighbour → Neighbour
better_of None next = next
better_of (Some best) next = if nat_lt best.fall next.fall then next else best

-- one of the kind behind all of the rows
pub record IsBehind (IsOne : Neighbour → Type 0) (rows : List Neighbour) (n : Neighbour) : Type 0 where
  pub is : IsOne n
  pub behind : All (λ m. StandsBefore m n) rows

-- none of the kind stands behind the rows, or this one does, and before all others that do
abbrev pub IsNext : (Neighbour → Type 0) → List Neighbour → Option Neighbour → Type 0
IsNext IsOne rows None = (n : Neighbour) → IsBehind IsOne rows n → ⊥
IsNext IsOne rows (Some next) = IsBehind IsOne rows next × ((n : Neighbour) → IsBehind IsOne rows n → (n ≡ next) ⊎ StandsBefore next n)
