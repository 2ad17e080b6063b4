-- Laws of what is found, in the subject's words.
use Rattle.std.specs.Prelude.{◌≡◌, ◌≢◌, ℕ, ◌+◌, ◌-◌, ◌*◌, ◌/◌, ◌≤◌, Bool, List, length, All, IsPermutation}
use Rattle.fractions.specs.Fraction.{IsAtMost}
use Rattle.fractions.specs.Tally.{Passes, importance_of}
use Rattle.elimination_tallies.specs.declared.labelled.LabelledRun.{LabelledRun}
use Rattle.elimination_tallies.specs.Recount.{failing_runs, recount}
use Rattle.compound_counts.specs.Truth.{pair_recount}
use Rattle.compound.specs.declared.chosen.PairResult.{PairResult}
use Rattle.compound.specs.Bound.{bound_of}
use Rattle.compound.specs.Found.{IsFound}
use Rattle.compound.specs.Pairs.{pairs_of}

-- each pair of two of the candidates is counted or skipped, and a predicate is no pair with itself
pub record AddsUp (candidates : List ℕ) (found : PairResult) : Type 0 where
  pub all : found.pairs ≡ length candidates * (length candidates - 1) / 2
  pub parts : found.counted + found.skipped ≡ found.pairs
  pub apart : All (λ (p : ℕ × ℕ). p.0 ≢ p.1) (pairs_of candidates)

abbrev pub EachPairIsCountedOrSkipped : Type 0
EachPairIsCountedOrSkipped = (branches : List Bool) (runs : List LabelledRun) (found : PairResult) (is : IsFound branches runs found)
    → AddsUp is.candidates found

abbrev pub OrderIsFreeForPairs : Type 0
OrderIsFreeForPairs = (branches : List Bool) (runs others : List LabelledRun) (found : PairResult) → IsPermutation runs others
    → IsFound branches runs found → IsFound branches others found

-- no importance of a pair is above its bound
abbrev pub NoneIsAboveItsBound : Type 0
NoneIsAboveItsBound = (branches : List Bool) (runs : List LabelledRun) (p q : ℕ) → length runs ≤ 100000 → Passes (pair_recount branches runs p q)
    → IsAtMost (importance_of (pair_recount branches runs p q) (failing_runs runs))
    (bound_of (recount branches runs p).a (recount branches runs q).a (failing_runs runs))
