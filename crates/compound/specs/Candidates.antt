-- The candidates for pairs: of the predicates that were true in a failing run the first thousand, those that pass before the others.
use Rattle.std.specs.Prelude.{◌≡◌, ◌⊎◌, ℕ, ◌<◌, ◌≤◌, List, length, All, AllPairs, Contains}
use Rattle.fractions.specs.declared.tally.Tally.{Tally}
use Rattle.fractions.specs.Fraction.{IsAtMost}
use Rattle.fractions.specs.Tally.{Passes, importance_of}

abbrev pub candidate_limit : ℕ
candidate_limit = 1000

-- the first of two predicates ranks at least as high: where the second one passes it passes too and isn't less important, and where it doesn't pass it
-- was true in as many failing runs
pub record RanksAtLeast (numbers : ℕ → Tally) (failing p q : ℕ) : Type 0 where
  pub passes : Passes (numbers q) → Passes (numbers p)
  pub importance : Passes (numbers q) → IsAtMost (importance_of (numbers q) failing) (importance_of (numbers p) failing)
  pub failing_runs : (Passes (numbers p) → ⊥) → (numbers q).a ≤ (numbers p).a

-- it comes before the second one: of two that rank alike the one with the smaller number does
pub record ComesBefore (numbers : ℕ → Tally) (failing p q : ℕ) : Type 0 where
  pub ranks : RanksAtLeast numbers failing p q
  pub first : RanksAtLeast numbers failing q p → p < q

-- the candidates of so many predicates with these numbers, over so many failing runs: in their order, and those that are left out come after a full list
pub record AreCandidates (numbers : ℕ → Tally) (count failing : ℕ) (candidates : List ℕ) : Type 0 where
  pub each : All (λ p. (p < count) × (1 ≤ (numbers p).a)) candidates
  pub ordered : AllPairs (ComesBefore numbers failing) candidates
  pub few : length candidates ≤ candidate_limit
  pub complete : (q : ℕ) → q < count → 1 ≤ (numbers q).a → Contains candidates q
      ⊎ ((length candidates ≡ candidate_limit) × All (λ p. ComesBefore numbers failing p q) candidates)
