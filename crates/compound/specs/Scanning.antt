-- One scan of the pairs for the best.
use Rattle.std.specs.Prelude.{◌≡◌, ℕ, ◌≤◌, Bool, not, List, count_by, MatchOption}
use Rattle.fractions.specs.declared.tally.Tally.{Tally}
use Rattle.fractions.specs.Fraction.{IsFraction}
use Rattle.fractions.specs.Tally.{IsTally, importance_of}
use Rattle.compound.specs.declared.scanning.Best.{Best}
use Rattle.compound.specs.declared.scanning.Scan.{Scan}
use Rattle.compound.specs.Best.{AreSkips, LeadsPairs, NoPairPasses}

-- the numbers of a pair, where its members were true in so many failing runs of so many
pub record IsPairTally (tally : Tally) (left right failing : ℕ) : Type 0 where
  pub is_tally : IsTally tally
  pub observed : tally.c ≤ failing
  pub in_left : tally.a ≤ left
  pub in_right : tally.a ≤ right

-- the leader so far
pub record IsBest (pair : ℕ → ℕ → Tally) (failing : ℕ) (done : List (ℕ × ℕ)) (best : Best) : Type 0 where
  pub leads : LeadsPairs pair failing done (best.chosen.left, best.chosen.right)
  pub tally : best.chosen.tally ≡ pair best.chosen.left best.chosen.right
  pub failing_is : best.chosen.failing ≡ failing
  pub importance : best.importance ≡ importance_of (pair best.chosen.left best.chosen.right) failing
  pub fraction : IsFraction best.importance

-- the scan of these pairs
pub record IsScan (one : ℕ → Tally) (pair : ℕ → ℕ → Tally) (failing : ℕ) (done : List (ℕ × ℕ)) (scan : Scan) : Type 0 where
  pub skips : List Bool
  pub are_skips : AreSkips one pair failing done skips
  pub counted : scan.counted ≡ count_by not skips
  pub skipped : scan.skipped ≡ count_by (λ skip. skip) skips
  pub best : MatchOption scan.best (NoPairPasses pair done) (IsBest pair failing done)
