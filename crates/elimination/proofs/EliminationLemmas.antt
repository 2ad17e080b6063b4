-- Fewer runs fail after each step; and an elimination as far as its leaders are listed.
use Rattle.std.proofs.Common.{◌≡◌, ℕ, zero, suc, ◌+◌, ◌*◌, ◌<◌, Bool, true, false, not, ◌&&◌, cond, List, [], ◌∷◌, ◌++◌, refl, sym, ap, subst, ◌∙◌, append_assoc, arith}
use Rattle.std.proofs.lemmas.List.{append-nil}
use Rattle.std.proofs.Math.Nat.{zero-mul}
use Rattle.std.proofs.lemmas.List.Sums.{sum_by-cons}
use Rattle.cbi_base.specs.declared.policy.Policy.{Policy}
use Rattle.cbi_base.specs.declared.policy.Policy.TheVariants.{All as Every, Failing, Relabel}
use Rattle.fractions.specs.declared.tally.Tally.{Tally}
use Rattle.fractions.specs.Tally.{Passes}
use Rattle.elimination_tallies.specs.declared.labelled.LabelledRun.{LabelledRun}
use Rattle.elimination_tallies.specs.declared.listed.Listed.{Listed}
use Rattle.elimination.specs.Elimination.{IsElimination, runs_after_leader, all_entries_taken, entries_taken, run_as_successful}
use Rattle.elimination_tallies.specs.Leading.{IsLeader, NonePasses}
use Rattle.elimination_tallies.specs.Recount.{failing_runs, is_failing, is_true, recount}

head-sum : (r : LabelledRun) (rest : List LabelledRun) (keep : Bool) → failing_runs (cond keep (r ∷ rest) rest) ≡ cond keep (cond (is_failing r.label) 1 0) 0 + failing_runs rest
head-sum r rest true = sum_by-cons (λ (x : LabelledRun). cond (is_failing x.label) 1 0) r rest
head-sum r rest false = omega arith

discard-sum : (f t : Bool) → cond (not t) (cond f 1 0) 0 + cond (f && t) 1 0 ≡ cond f 1 0
discard-sum true true = refl
discard-sum true false = refl
discard-sum false true = refl
discard-sum false false = refl

discard-failing-sum : (f t : Bool) → cond (not (f && t)) (cond f 1 0) 0 + cond (f && t) 1 0 ≡ cond f 1 0
discard-failing-sum true true = refl
discard-failing-sum true false = refl
discard-failing-sum false true = refl
discard-failing-sum false false = refl

relabel-sum : (f t : Bool) → cond (f && t) 0 (cond f 1 0) + cond (f && t) 1 0 ≡ cond f 1 0
relabel-sum true true = refl
relabel-sum true false = refl
relabel-sum false true = refl
relabel-sum false false = refl

relabelled-fails : (r : LabelledRun) (taken : Bool) → ◌≡◌ {A = ℕ} (cond (is_failing (cond taken (run_as_successful r) r).label) 1 0) (cond taken 0 (cond (is_failing r.label) 1 0))
relabelled-fails r true = refl
relabelled-fails r false = refl

-- the failing runs in which the leader was true fail no more, and the others still do
pub after-counts : (branches : List Bool) (policy : Policy) (leader : ℕ) (runs : List LabelledRun) → failing_runs (runs_after_leader branches policy leader runs) + (recount branches runs leader).a ≡ failing_runs runs
after-counts branches Every leader (r ∷ more) =
    omega (
      arith,
      head-sum r (runs_after_leader branches Every leader more) (not (is_true branches leader r)),
      discard-sum (is_failing r.label) (is_true branches leader r),
      after-counts branches Every leader more,
      sum_by-cons (λ (x : LabelledRun). cond (is_failing x.label && is_true branches leader x) 1 0) r more,
      sum_by-cons (λ (x : LabelledRun). cond (is_failing x.label) 1 0) r more,
    )
after-counts branches Failing leader (r ∷ more) =
    omega (
      arith,
      head-sum r (runs_after_leader branches Failing leader more) (not (is_failing r.label && is_true branches leader r)),
      discard-failing-sum (is_failing r.label) (is_true branches leader r),
      after-counts branches Failing leader more,
      sum_by-cons (λ (x : LabelledRun). cond (is_failing x.label && is_true branches leader x) 1 0) r more,
      sum_by-cons (λ (x : LabelledRun). cond (is_failing x.label) 1 0) r more,
    )
after-counts branches Relabel leader (r ∷ more) =
    omega (
      arith,
      sum_by-cons (λ (x : LabelledRun). cond (is_failing x.label) 1 0) (cond (is_failing r.label && is_true branches leader r) (run_as_successful r) r) (runs_after_leader branches Relabel leader more),
      relabelled-fails r (is_failing r.label && is_true branches leader r),
      relabel-sum (is_failing r.label) (is_true branches leader r),
      after-counts branches Relabel leader more,
      sum_by-cons (λ (x : LabelledRun). cond (is_failing x.label && is_true branches leader x) 1 0) r more,
      sum_by-cons (λ (x : LabelledRun). cond (is_failing x.label) 1 0) r more,
    )
after-counts branches Every leader [] = refl
after-counts branches Failing leader [] = refl
after-counts branches Relabel leader [] = refl

-- a passing predicate was true in a failing run
positive-by : (a d : ℕ) → 0 < a * d → 0 < a
positive-by zero d h = absurd (omega (arith, zero-mul d))
positive-by (suc a) d h = omega arith

pub passes-positive : (t : Tally) → Passes t → 0 < t.a
passes-positive t p = positive-by t.a t.d (omega (arith, p.increases))

pub leader-falls : (branches : List Bool) (policy : Policy) (runs : List LabelledRun) (row : Listed) → IsLeader branches runs row → failing_runs (runs_after_leader branches policy row.predicate runs) < failing_runs runs
leader-falls branches policy runs row leads = omega (arith, after-counts branches policy row.predicate runs, passes-positive (recount branches runs row.predicate) leads.leads.passes)

-- the leaders so far: those to come make the elimination with them
pub record IsListing (branches : List Bool) (policy : Policy) (all left : List LabelledRun) (rows : List Listed) (before steps : ℕ) : Type 0 where
  pub rows_are : (rest : List Listed) → IsElimination branches policy left rest → IsElimination branches policy all (rows ++ rest)
  pub steps_are : (rest : List Listed) → before + all_entries_taken branches policy all (rows ++ rest) ≡ steps + all_entries_taken branches policy left rest

pub listing-more : (branches : List Bool) (policy : Policy) (all left : List LabelledRun) (rows new : List Listed) (row : Listed) (before steps more : ℕ) → IsListing branches policy all left rows before steps → IsLeader branches left row → more ≡ steps + entries_taken branches policy row.predicate left
    → new ≡ rows ++ row ∷ [] → IsListing branches policy all (runs_after_leader branches policy row.predicate left) new before more
listing-more branches policy all left rows new row before steps more so_far leads steps_are is =
    let split : (rest : List Listed) → new ++ rest ≡ rows ++ row ∷ rest = λ rest. ap (λ (xs : List Listed). xs ++ rest) is ∙ append_assoc rows (row ∷ []) rest in record {
      rows_are = λ rest elimination. subst (IsElimination branches policy all) (sym (split rest)) (so_far.rows_are (row ∷ rest) (leads, elimination));
      steps_are = λ rest. ap (λ (xs : List Listed). before + all_entries_taken branches policy all xs) (split rest) ∙ so_far.steps_are (row ∷ rest)
          ∙ omega (arith, steps_are);
    }

pub listing-end : (branches : List Bool) (policy : Policy) (all left : List LabelledRun) (rows : List Listed) (before steps : ℕ) → IsListing branches policy all left rows before steps → NonePasses branches left → IsElimination branches policy all rows × (steps ≡ before + all_entries_taken branches policy all rows)
listing-end branches policy all left rows before steps so_far none = (
  subst (IsElimination branches policy all) (append-nil rows) (so_far.rows_are [] none),
  omega (arith, so_far.steps_are [], ap (all_entries_taken branches policy all) (append-nil rows)),
)
