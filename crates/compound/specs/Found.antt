-- What is found of the pairs of predicates over runs.
use Rattle.std.specs.Prelude.{◌≡◌, ℕ, Bool, not, List, length, count_by, MatchOption}
use Rattle.fractions.specs.declared.tally.Tally.{Tally}
use Rattle.elimination_tallies.specs.declared.labelled.LabelledRun.{LabelledRun}
use Rattle.elimination_tallies.specs.Predicates.{predicates_in}
use Rattle.elimination_tallies.specs.Recount.{failing_runs, recount}
use Rattle.compound_counts.specs.Truth.{pair_recount}
use Rattle.compound.specs.declared.chosen.Chosen.{Chosen}
use Rattle.compound.specs.declared.chosen.PairResult.{PairResult}
use Rattle.compound.specs.Best.{AreSkips, LeadsPairs, NoPairPasses}
use Rattle.compound.specs.Candidates.{AreCandidates}
use Rattle.compound.specs.Pairs.{pairs_of}

-- the leader of these pairs, with its numbers and the number of failing runs
pub record IsChosen (pair : ℕ → ℕ → Tally) (failing : ℕ) (pairs : List (ℕ × ℕ)) (chosen : Chosen) : Type 0 where
  pub leads : LeadsPairs pair failing pairs (chosen.left, chosen.right)
  pub tally : chosen.tally ≡ pair chosen.left chosen.right
  pub failing_is : chosen.failing ≡ failing

-- how many of these pairs there are, how many are skipped and how many counted, and the best of all of them
pub record ArePairsScanned (one : ℕ → Tally) (pair : ℕ → ℕ → Tally) (failing : ℕ) (pairs : List (ℕ × ℕ)) (found : PairResult) : Type 0 where
  pub skips : List Bool
  pub are_skips : AreSkips one pair failing pairs skips
  pub as_many : found.pairs ≡ length pairs
  pub counted : found.counted ≡ count_by not skips
  pub skipped : found.skipped ≡ count_by (λ skip. skip) skips
  pub best : MatchOption found.best (NoPairPasses pair pairs) (IsChosen pair failing pairs)

-- so of the pairs of two candidates
pub record IsFoundBy (one : ℕ → Tally) (count : ℕ) (pair : ℕ → ℕ → Tally) (failing : ℕ) (found : PairResult) : Type 0 where
  pub candidates : List ℕ
  pub are_candidates : AreCandidates one count failing candidates
  pub are_scanned : ArePairsScanned one pair failing (pairs_of candidates) found

-- and so over runs
abbrev pub IsFound : List Bool → List LabelledRun → PairResult → Type 0
IsFound branches runs found = IsFoundBy (recount branches runs) (predicates_in branches) (pair_recount branches runs) (failing_runs runs) found
