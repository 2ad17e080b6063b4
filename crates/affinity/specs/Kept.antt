-- Kept numbers over all runs and over those that are left.
use Rattle.std.specs.Prelude.{◌≡◌, ℕ, ◌≤◌, Bool, List}
use Rattle.cbi_base.specs.declared.policy.Policy.TheVariants.{All as Every}
use Rattle.elimination_tallies.specs.declared.labelled.LabelledRun.{LabelledRun}
use Rattle.elimination_tallies.specs.Recount.{failing_runs}
use Rattle.elimination_tallies.specs.Scanning.{AreScanned, tally_at}
use Rattle.elimination_tallies.specs.Tallies.{AreRecounts, Tallies}
use Rattle.elimination.specs.Elimination.{runs_after_leader}
use Rattle.affinity.specs.declared.remaining.Remaining.{Remaining}
use Rattle.affinity.specs.Falls.{Scores}

-- the scores by kept numbers
abbrev pub scores_by : Tallies → ℕ → Scores
scores_by t failing = record { numbers = tally_at t.tallies; failing = failing }

-- the numbers over the runs in which p wasn't true, how many of these fail, and how many of all
pub record IsWithout (branches : List Bool) (runs : List LabelledRun) (p : ℕ) (w : Remaining) : Type 0 where
  pub recounts : AreRecounts branches (runs_after_leader branches Every p runs) w.numbers
  pub failing : w.failing ≡ failing_runs (runs_after_leader branches Every p runs)
  pub all : w.all ≡ failing_runs runs

-- what a comparison relies on
pub record AreComparable (whole : Tallies) (w : Remaining) : Type 0 where
  pub same_branches : w.numbers.branches ≡ whole.branches
  pub whole_scanned : AreScanned whole.tallies w.all
  pub left_scanned : AreScanned w.numbers.tallies w.failing
  pub few : w.all ≤ 100000
  pub few_left : w.failing ≤ 100000
  pub fewer : w.failing ≤ w.all
