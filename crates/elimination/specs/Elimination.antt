-- Iterative elimination (PLDI 2005 section 3.4) and its policies (section 5).
use Rattle.std.specs.Prelude.{ℕ, ◌+◌, Bool, not, ◌&&◌, if◌then◌else◌, List, [], ◌∷◌, length, map, filter, sum_by}
use Rattle.cbi_base.specs.declared.policy.Policy.{Policy}
use Rattle.cbi_base.specs.declared.policy.Policy.TheVariants.{All, Failing, Relabel}
use Rattle.report_file.specs.declared.label.Label.TheVariants.{Pass}
use Rattle.elimination_tallies.specs.declared.labelled.LabelledRun.{LabelledRun}
use Rattle.elimination_tallies.specs.declared.listed.Listed.{Listed}
use Rattle.elimination_tallies.specs.Recount.{is_failing, is_true}
use Rattle.elimination_tallies.specs.Leading.{IsLeader, NonePasses}

-- whether the policy's step after this leader discards or relabels the run
abbrev pub is_taken : List Bool → Policy → ℕ → LabelledRun → Bool
is_taken branches All leader r = is_true branches leader r
is_taken branches Failing leader r = is_failing r.label && is_true branches leader r
is_taken branches Relabel leader r = is_failing r.label && is_true branches leader r

-- the run counts as successful
abbrev pub run_as_successful : LabelledRun → LabelledRun
run_as_successful r = record r { label = Pass }

-- the runs that the policy leaves after a leader: those in which it wasn't true; or all but the failing ones in which it was; or all, these
-- counting as successful from then on
abbrev pub runs_after_leader : List Bool → Policy → ℕ → List LabelledRun → List LabelledRun
runs_after_leader branches All leader runs = filter (λ r. not (is_taken branches All leader r)) runs
runs_after_leader branches Failing leader runs = filter (λ r. not (is_taken branches Failing leader r)) runs
runs_after_leader branches Relabel leader runs = map (λ r. if is_taken branches Relabel leader r then run_as_successful r else r) runs

-- how many site entries the runs have that the step discards or relabels
abbrev pub entries_taken : List Bool → Policy → ℕ → List LabelledRun → ℕ
entries_taken branches policy leader runs = sum_by (λ (r : LabelledRun). if is_taken branches policy leader r then length r.entries else 0) runs

-- the list of the leaders, each over the runs that the policy left, until none passes
abbrev pub IsElimination : List Bool → Policy → List LabelledRun → List Listed → Type 0
IsElimination branches policy runs [] = NonePasses branches runs
IsElimination branches policy runs (row ∷ more) =
    IsLeader branches runs row × IsElimination branches policy (runs_after_leader branches policy row.predicate runs) more

-- how many site entries all steps of an elimination take
abbrev pub all_entries_taken : List Bool → Policy → List LabelledRun → List Listed → ℕ
all_entries_taken branches policy runs [] = 0
all_entries_taken branches policy runs (row ∷ more) =
    entries_taken branches policy row.predicate runs + all_entries_taken branches policy (runs_after_leader branches policy row.predicate runs) more

-- how many site entries runs have
abbrev pub entries_in : List LabelledRun → ℕ
entries_in runs = sum_by (λ (r : LabelledRun). length r.entries) runs

-- what an eliminator is: which sites are branches, the policy, and the runs left
pub record EliminatorState : Type 0 where
  pub branches : List Bool
  pub policy : Policy
  pub runs : List LabelledRun

-- what its next step leaves
abbrev pub stepped_on : EliminatorState → ℕ → EliminatorState
stepped_on e leader = record e { runs = runs_after_leader e.branches e.policy leader e.runs }
