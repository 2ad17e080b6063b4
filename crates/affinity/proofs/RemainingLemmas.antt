-- The numbers while the runs in which a predicate was true are taken out.
use Rattle.std.proofs.Common.{◌≡◌, ℕ, ◌+◌, ◌≤◌, Bool, true, false, not, cond, List, [], ◌∷◌, ◌++◌, length, refl, sym, ap, subst, ◌∙◌, append_assoc, arith}
use Rattle.std.proofs.lemmas.List.{length-append}
use Rattle.std.proofs.lemmas.List.Sums.{sum_by-append, sum_by-cons}
use Rattle.elimination_tallies.proofs.TotalLemmas.{one-most}
use Rattle.cbi_base.specs.declared.policy.Policy.TheVariants.{All as Every}
use Rattle.elimination_tallies.specs.declared.labelled.LabelledRun.{LabelledRun}
use Rattle.elimination_tallies.specs.declared.numbers.Change.TheVariants.{TakeOut}
use Rattle.elimination_tallies.specs.Recount.{failing_runs, is_failing, is_true}
use Rattle.elimination_tallies.specs.Runs.{AreRunsOf}
use Rattle.elimination_tallies.specs.Tallies.{AllowsEntries, AreRecounts, ChangedByAll, Tallies, counted_as, one_if}
use Rattle.elimination_tallies.proofs.RecountLemmas.{fails-most}
use Rattle.elimination_tallies.proofs.RunChanges.{take-out-allowed, take-out-recounts, well-without}
use Rattle.elimination.specs.Elimination.{runs_after_leader}
use Rattle.affinity.proofs.NearLemmas.{left-few}

-- so far: the runs kept, and those that are still to come
pub record LeftSoFar (branches : List Bool) (p : ℕ) (rest all : List LabelledRun) (numbers : Tallies) (failing every : ℕ) : Type 0 where
  pub kept : List LabelledRun
  pub recounts : AreRecounts branches (kept ++ rest) numbers
  pub well : AreRunsOf branches (kept ++ rest)
  pub runs : kept ++ runs_after_leader branches Every p rest ≡ runs_after_leader branches Every p all
  pub failing_are : failing ≡ failing_runs kept
  pub every_are : every + failing_runs rest ≡ failing_runs all

pub left-start : (branches : List Bool) (p : ℕ) (all : List LabelledRun) (numbers : Tallies) → AreRunsOf branches all → AreRecounts branches all numbers → LeftSoFar branches p all all numbers 0 0
left-start branches p all numbers well recounts = record { kept = []; recounts = recounts; well = well; runs = refl; failing_are = refl; every_are = omega arith }

-- what a test leaves of a first run
after-first : (branches : List Bool) (p : ℕ) (r : LabelledRun) (rest : List LabelledRun) (b : Bool) → is_true branches p r ≡ b → runs_after_leader branches Every p (r ∷ rest) ≡ cond (not b) (r ∷ runs_after_leader branches Every p rest) (runs_after_leader branches Every p rest)
after-first branches p r rest b is = ap (λ x. cond (not x) (r ∷ runs_after_leader branches Every p rest) (runs_after_leader branches Every p rest)) is

every-more : (every : ℕ) (r : LabelledRun) (rest all : List LabelledRun) → every + failing_runs (r ∷ rest) ≡ failing_runs all → (every + one_if (is_failing r.label)) + failing_runs rest ≡ failing_runs all
every-more every r rest all is = omega (arith, is, sum_by-cons (λ (x : LabelledRun). one_if (is_failing x.label)) r rest)

pub left-allowed : (branches : List Bool) (p : ℕ) (r : LabelledRun) (rest all : List LabelledRun) (numbers : Tallies) (failing every : ℕ) → LeftSoFar branches p (r ∷ rest) all numbers failing every → AllowsEntries (TakeOut (counted_as r.label)) r.entries numbers
left-allowed branches p r rest all numbers failing every so_far = take-out-allowed branches so_far.kept rest r numbers so_far.well so_far.recounts

pub left-taken : (branches : List Bool) (p : ℕ) (r : LabelledRun) (rest all : List LabelledRun) (numbers new : Tallies) (failing every : ℕ) → LeftSoFar branches p (r ∷ rest) all numbers failing every → is_true branches p r ≡ true
    → ChangedByAll (TakeOut (counted_as r.label)) r.entries numbers new → LeftSoFar branches p rest all new failing (every + one_if (is_failing r.label))
left-taken branches p r rest all numbers new failing every so_far was change = record {
  kept = so_far.kept;
  recounts = take-out-recounts branches so_far.kept rest r numbers new so_far.well so_far.recounts change;
  well = well-without branches so_far.kept rest r so_far.well;
  runs = ap (λ (rs : List LabelledRun). so_far.kept ++ rs) (sym (after-first branches p r rest true was)) ∙ so_far.runs;
  failing_are = so_far.failing_are;
  every_are = every-more every r rest all so_far.every_are;
}

pub left-kept : (branches : List Bool) (p : ℕ) (r : LabelledRun) (rest all : List LabelledRun) (numbers : Tallies) (failing every : ℕ) → LeftSoFar branches p (r ∷ rest) all numbers failing every → is_true branches p r ≡ false
    → LeftSoFar branches p rest all numbers (failing + one_if (is_failing r.label)) (every + one_if (is_failing r.label))
left-kept branches p r rest all numbers failing every so_far was =
    let joined : so_far.kept ++ r ∷ rest ≡ (so_far.kept ++ r ∷ []) ++ rest = sym (append_assoc so_far.kept (r ∷ []) rest) in
    let f : LabelledRun → ℕ = λ x. one_if (is_failing x.label) in record {
      kept = so_far.kept ++ r ∷ [];
      recounts = subst (λ (rs : List LabelledRun). AreRecounts branches rs numbers) joined so_far.recounts;
      well = subst (AreRunsOf branches) joined so_far.well;
      runs = append_assoc so_far.kept (r ∷ []) (runs_after_leader branches Every p rest) ∙ ap (λ (rs : List LabelledRun). so_far.kept ++ rs) (sym (after-first branches p r rest false was)) ∙ so_far.runs;
      failing_are = omega (arith, so_far.failing_are, sum_by-append f so_far.kept (r ∷ []), sum_by-cons f r []);
      every_are = every-more every r rest all so_far.every_are;
    }

pub failing-small : (branches : List Bool) (p : ℕ) (rest all : List LabelledRun) (numbers : Tallies) (failing every : ℕ) (l : Bool) → LeftSoFar branches p rest all numbers failing every → failing + one_if l ≤ length all + 1
failing-small branches p rest all numbers failing every l so_far =
    omega (arith, so_far.failing_are, fails-most so_far.kept, ap length so_far.runs, length-append so_far.kept (runs_after_leader branches Every p rest), left-few branches p all, one-most l)
