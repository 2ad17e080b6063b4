-- How far the importance of a predicate falls when the runs are taken away in which another one was true (the affinity lists of PLDI 2005).
use Rattle.std.specs.Prelude.{◌≡◌, ◌≢◌, ℕ, ◌-◌, ◌<◌, Bool, List}
use Rattle.fractions.specs.declared.tally.Tally.{Tally}
use Rattle.fractions.specs.Fraction.{millionths_of}
use Rattle.fractions.specs.Tally.{Passes, importance_of}
use Rattle.elimination_tallies.specs.declared.labelled.LabelledRun.{LabelledRun}
use Rattle.elimination_tallies.specs.Recount.{failing_runs, recount}

-- the numbers of predicates over some runs, and how many of these fail
pub record Scores : Type 0 where
  pub numbers : ℕ → Tally
  pub failing : ℕ

abbrev pub scores_over : List Bool → List LabelledRun → Scores
scores_over branches runs = record { numbers = recount branches runs; failing = failing_runs runs }

-- the importance of a predicate in millionths, rounded down
abbrev pub share_of : Scores → ℕ → ℕ
share_of s q = millionths_of (importance_of (s.numbers q) s.failing)

-- what of it counts: nothing where the predicate doesn't pass
pub record IsWorth (s : Scores) (q worth : ℕ) : Type 0 where
  pub passing : Passes (s.numbers q) → worth ≡ share_of s q
  pub otherwise : (Passes (s.numbers q) → ⊥) → worth ≡ 0

-- q is one of so many predicates, another one than p, and passes; and so far its importance falls from the whole to what is left
pub record IsFall (count p : ℕ) (whole left : Scores) (q fall : ℕ) : Type 0 where
  pub is_one : q < count
  pub other : q ≢ p
  pub passes : Passes (whole.numbers q)
  pub rest : ℕ
  pub rest_is : IsWorth left q rest
  pub fall_is : fall ≡ share_of whole q - rest
