-- The predicates near another one: the first five whose importance falls.
use Rattle.std.specs.Prelude.{◌≡◌, ℕ, ◌<◌, ◌≤◌, ◌⊎◌, Bool, List, [], ◌∷◌, length, All, Contains}
use Rattle.cbi_base.specs.declared.policy.Policy.TheVariants.{All as Every}
use Rattle.elimination_tallies.specs.declared.labelled.LabelledRun.{LabelledRun}
use Rattle.elimination_tallies.specs.Predicates.{predicates_in}
use Rattle.elimination.specs.Elimination.{runs_after_leader}
use Rattle.affinity.specs.declared.neighbour.Neighbour.{Neighbour}
use Rattle.affinity.specs.Falls.{IsFall, Scores, scores_over}

-- a predicate whose importance falls, and how far
abbrev pub IsNeighbour : ℕ → ℕ → Scores → Scores → Neighbour → Type 0
IsNeighbour count p whole left n = IsFall count p whole left n.predicate n.fall × (0 < n.fall)

-- the greater fall stands first, and among equal ones the smaller number
abbrev pub StandsBefore : Neighbour → Neighbour → Type 0
StandsBefore n m = (m.fall < n.fall) ⊎ ((n.fall ≡ m.fall) × (n.predicate < m.predicate))

abbrev pub AreInOrder : List Neighbour → Type 0
AreInOrder [] = Unit {0}
AreInOrder (n ∷ more) = All (StandsBefore n) more × AreInOrder more

-- the first so many of those of a kind: each of the kind is listed, or so many stand before it
pub record AreFirst (most : ℕ) (IsOne : Neighbour → Type 0) (rows : List Neighbour) : Type 0 where
  pub few : length rows ≤ most
  pub each : All IsOne rows
  pub order : AreInOrder rows
  pub others : (n : Neighbour) → IsOne n → Contains rows n ⊎ ((length rows ≡ most) × All (λ m. StandsBefore m n) rows)

-- those near p, among so many predicates with these scores over all runs and over those that are left
abbrev pub AreNearBy : ℕ → ℕ → Scores → Scores → List Neighbour → Type 0
AreNearBy count p whole left rows = AreFirst 5 (IsNeighbour count p whole left) rows

-- those near p over runs: what is left are the runs in which p wasn't true
abbrev pub AreNear : List Bool → List LabelledRun → ℕ → List Neighbour → Type 0
AreNear branches runs p rows =
    AreNearBy (predicates_in branches) p (scores_over branches runs) (scores_over branches (runs_after_leader branches Every p runs)) rows
