-- The best pair, and the pairs that are skipped on the way to it.
use Rattle.std.specs.Prelude.{◌≡◌, ◌↔◌, ℕ, ◌<◌, Bool, false, List, ◌∷◌, ◌++◌, length, take, slice_index_or, All, Any, IsTrue}
use Rattle.fractions.specs.declared.tally.Tally.{Tally}
use Rattle.fractions.specs.Fraction.{IsAtMost}
use Rattle.fractions.specs.Tally.{Passes, importance_of}
use Rattle.compound.specs.Bound.{IsLess, bound_of}

abbrev pub PairPasses : (ℕ → ℕ → Tally) → ℕ × ℕ → Type 0
PairPasses pair p = Passes (pair p.0 p.1)

abbrev pub NoPairPasses : (ℕ → ℕ → Tally) → List (ℕ × ℕ) → Type 0
NoPairPasses pair pairs = All (λ (p : ℕ × ℕ). PairPasses pair p → ⊥) pairs

-- among these pairs this one passes, those before it that pass are less important, and those after it aren't more important
pub record LeadsPairs (pair : ℕ → ℕ → Tally) (failing : ℕ) (pairs : List (ℕ × ℕ)) (best : ℕ × ℕ) : Type 0 where
  pub before : List (ℕ × ℕ)
  pub after : List (ℕ × ℕ)
  pub stands : pairs ≡ before ++ best ∷ after
  pub passes : PairPasses pair best
  pub earlier : All (λ (p : ℕ × ℕ). PairPasses pair p → IsLess (importance_of (pair p.0 p.1) failing) (importance_of (pair best.0 best.1) failing)) before
  pub later : All (λ (p : ℕ × ℕ). PairPasses pair p → IsAtMost (importance_of (pair p.0 p.1) failing) (importance_of (pair best.0 best.1) failing)) after

-- a pair is skipped after these where its bound is less than the importance of one of them that passes
pub record IsPassedOver (one : ℕ → Tally) (pair : ℕ → ℕ → Tally) (failing : ℕ) (p other : ℕ × ℕ) : Type 0 where
  pub passes : PairPasses pair other
  pub less : IsLess (bound_of (one p.0).a (one p.1).a failing) (importance_of (pair other.0 other.1) failing)

abbrev pub IsSkipped : (ℕ → Tally) → (ℕ → ℕ → Tally) → ℕ → List (ℕ × ℕ) → ℕ × ℕ → Type 0
IsSkipped one pair failing before p = Any (IsPassedOver one pair failing p) before

-- of each of these pairs, whether it is skipped after those before it
pub record AreSkips (one : ℕ → Tally) (pair : ℕ → ℕ → Tally) (failing : ℕ) (pairs : List (ℕ × ℕ)) (skips : List Bool) : Type 0 where
  pub as_many : length skips ≡ length pairs
  pub each : (k : ℕ) → k < length pairs → IsTrue (slice_index_or skips k false) ↔ IsSkipped one pair failing (take k pairs) (slice_index_or pairs k (0, 0))
