-- Laws of the predicates near another one.
use Rattle.std.specs.Prelude.{◌≡◌, ◌≢◌, ℕ, Bool, List, ◌∷◌, All}
use Rattle.cbi_base.specs.declared.policy.Policy.TheVariants.{All as Every}
use Rattle.fractions.specs.Fraction.{millionths_of}
use Rattle.fractions.specs.Tally.{importance_of}
use Rattle.elimination_tallies.specs.declared.labelled.LabelledRun.{LabelledRun}
use Rattle.elimination_tallies.specs.declared.listed.Listed.{Listed}
use Rattle.elimination.specs.Elimination.{IsElimination, runs_after_leader}
use Rattle.affinity.specs.declared.neighbour.Neighbour.{Neighbour}
use Rattle.affinity.specs.Falls.{IsWorth, scores_over, share_of}
use Rattle.affinity.specs.Near.{AreNear}

abbrev pub NoneIsNearItself : Type 0
NoneIsNearItself = (branches : List Bool) (runs : List LabelledRun) (p : ℕ) (rows : List Neighbour) → AreNear branches runs p rows
    → All (λ (n : Neighbour). n.predicate ≢ p) rows

-- there is one list of those near a predicate
abbrev pub OneNear : Type 0
OneNear = (branches : List Bool) (runs : List LabelledRun) (p : ℕ) (one other : List Neighbour) → AreNear branches runs p one
    → AreNear branches runs p other → one ≡ other

-- for the first leader of an elimination that discards its runs, what is left is what the second round looks at: so is the importance of the second
-- leader there
pub record IsSecondRound (branches : List Bool) (runs : List LabelledRun) (first second : Listed) : Type 0 where
  pub before : share_of (scores_over branches runs) first.predicate ≡ millionths_of (importance_of first.tally first.failing)
  pub rest : IsWorth (scores_over branches (runs_after_leader branches Every first.predicate runs)) second.predicate
      (millionths_of (importance_of second.tally second.failing))

abbrev pub RoundsAreCompared : Type 0
RoundsAreCompared = (branches : List Bool) (runs : List LabelledRun) (first second : Listed) (more : List Listed)
    → IsElimination branches Every runs (first ∷ second ∷ more) → IsSecondRound branches runs first second
