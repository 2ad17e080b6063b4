-- The leading predicate (PLDI 2005 sections 3.3 and 3.4).
use Rattle.std.specs.Prelude.{◌≡◌, ℕ, ◌<◌, ◌≤◌, Bool, List}
use Rattle.fractions.specs.declared.tally.Tally.{Tally}
use Rattle.fractions.specs.Tally.{Passes, importance_of}
use Rattle.fractions.specs.Fraction.{IsAtMost}
use Rattle.elimination_tallies.specs.declared.labelled.LabelledRun.{LabelledRun}
use Rattle.elimination_tallies.specs.declared.listed.Listed.{Listed}
use Rattle.elimination_tallies.specs.Predicates.{predicates_in}
use Rattle.elimination_tallies.specs.Recount.{recount, failing_runs}

-- among so many predicates with these numbers, over so many failing runs, this one passes, and no passing one has a greater importance, nor an equal
-- one and a smaller number
pub record Leads (numbers : ℕ → Tally) (count failing predicate : ℕ) : Type 0 where
  pub is_one : predicate < count
  pub passes : Passes (numbers predicate)
  pub greatest : (q : ℕ) → q < count → Passes (numbers q) → IsAtMost (importance_of (numbers q) failing) (importance_of (numbers predicate) failing)
  pub first : (q : ℕ) → q < count → Passes (numbers q) → IsAtMost (importance_of (numbers predicate) failing) (importance_of (numbers q) failing)
      → predicate ≤ q

-- none of so many predicates with these numbers passes
abbrev pub NonePass : (ℕ → Tally) → ℕ → Type 0
NonePass numbers count = (q : ℕ) → q < count → Passes (numbers q) → ⊥

-- the leader over these runs, with its numbers and the number of failing runs
pub record IsLeader (branches : List Bool) (runs : List LabelledRun) (row : Listed) : Type 0 where
  pub leads : Leads (recount branches runs) (predicates_in branches) (failing_runs runs) row.predicate
  pub tally : row.tally ≡ recount branches runs row.predicate
  pub failing : row.failing ≡ failing_runs runs

abbrev pub NonePasses : List Bool → List LabelledRun → Type 0
NonePasses branches runs = NonePass (recount branches runs) (predicates_in branches)
