-- What the policy's step leaves of the books.
use Rattle.std.proofs.Common.{◌≡◌, ℕ, ◌+◌, ◌-◌, Bool, true, List, ◌∷◌, ◌++◌, length, set, Some, sym, ap, subst, ◌∙◌, arith}
use Rattle.std.specs.Prelude.{All, slice_get}
use Rattle.std.proofs.lemmas.List.{length-set}
use Rattle.std.proofs.lemmas.List.Elements.{All-get_or, All-set}
use Rattle.std.proofs.lemmas.Option.{get_or_from_slice_get, slice_get_within}
use Rattle.cbi_base.specs.declared.policy.Policy.{Policy}
use Rattle.elimination.specs.declared.books.Books.{Books}
use Rattle.elimination.specs.declared.books.Slot.{Slot}
use Rattle.elimination_tallies.specs.declared.labelled.LabelledRun.{LabelledRun}
use Rattle.elimination.specs.Elimination.{is_taken}
use Rattle.elimination_tallies.specs.Recount.{failing_runs, is_failing}
use Rattle.elimination_tallies.specs.Runs.{AreEntriesOf, AreRunsOf}
use Rattle.elimination.specs.Slots.{AreBooks, change_of, discard_count, left_of, taken_slot}
use Rattle.elimination_tallies.specs.Tallies.{AllowsEntries, AreRecounts, ChangedByAll, one_if}
use Rattle.elimination.proofs.StepLemmas.{before_slot, behind_slot, left-middle, left-most, left-set, left-well, rest_of, rest-fails, rest-length, taken-allowed, taken-entries, taken-recounts}

-- a slot whose run is taken
pub record IsTaken (b : Books) (policy : Policy) (leader place : ℕ) (s : Slot) : Type 0 where
  pub stands : slice_get b.slots.items place ≡ Some s
  pub left : s.left ≡ true
  pub taken : is_taken b.tallies.branches policy leader s.run ≡ true

abbrev runs_with : Books → ℕ → Slot → List LabelledRun
runs_with b place s = before_slot place b.slots.items ++ s.run ∷ behind_slot place b.slots.items

abbrev runs_without : Books → Policy → ℕ → Slot → List LabelledRun
runs_without b policy place s = rest_of policy (before_slot place b.slots.items) s.run (behind_slot place b.slots.items)

left-is : (b : Books) (policy : Policy) (leader place : ℕ) (s : Slot) → IsTaken b policy leader place s → left_of b.slots.items ≡ runs_with b place s
left-is b policy leader place s at = left-middle b.slots.items place s at.stands at.left

with-well : (b : Books) (policy : Policy) (leader place : ℕ) (s : Slot) → AreBooks b → IsTaken b policy leader place s → AreRunsOf b.tallies.branches (runs_with b place s)
with-well b policy leader place s books at = subst (AreRunsOf b.tallies.branches) (left-is b policy leader place s at) (left-well b.tallies.branches b.slots.items books.runs)

pub step-allowed : (b : Books) (policy : Policy) (leader place : ℕ) (s : Slot) → AreBooks b → IsTaken b policy leader place s → AllowsEntries (change_of policy s.run.label) s.run.entries b.tallies
step-allowed b policy leader place s books at =
    let is = left-is b policy leader place s at in
    taken-allowed b.tallies.branches policy leader (before_slot place b.slots.items) (behind_slot place b.slots.items) s.run b.tallies (with-well b policy leader place s books at) (omega (arith, ap length is, left-most b.slots.items, books.few)) at.taken
    (subst (λ (rs : List LabelledRun). AreRecounts b.tallies.branches rs b.tallies) is books.recounts)

pub step-fails : (b : Books) (policy : Policy) (leader place : ℕ) (s : Slot) → AreBooks b → IsTaken b policy leader place s → b.failing ≡ failing_runs (runs_without b policy place s) + one_if (is_failing s.run.label)
step-fails b policy leader place s books at = books.failing ∙ ap failing_runs (left-is b policy leader place s at) ∙ rest-fails policy (before_slot place b.slots.items) (behind_slot place b.slots.items) s.run

pub step-length : (b : Books) (policy : Policy) (leader place : ℕ) (s : Slot) → AreBooks b → IsTaken b policy leader place s → b.left ≡ length (runs_without b policy place s) + discard_count policy
step-length b policy leader place s books at = books.left ∙ ap length (left-is b policy leader place s at) ∙ rest-length policy (before_slot place b.slots.items) (behind_slot place b.slots.items) s.run

pub step-books : (b new : Books) (policy : Policy) (leader place : ℕ) (s : Slot) → AreBooks b → IsTaken b policy leader place s → ChangedByAll (change_of policy s.run.label) s.run.entries b.tallies new.tallies
    → new.slots.items ≡ set b.slots.items place (taken_slot policy s) → new.failing ≡ b.failing - one_if (is_failing s.run.label) → new.left ≡ b.left - discard_count policy → AreBooks new
step-books b new policy leader place s books at change slots failing left =
    let is = left-is b policy leader place s at in
    let now : left_of new.slots.items ≡ runs_without b policy place s = ap left_of slots ∙ left-set policy b.slots.items place s at.stands at.left in
    let recounts = taken-recounts b.tallies.branches policy leader (before_slot place b.slots.items) (behind_slot place b.slots.items) s.run b.tallies new.tallies (with-well b policy leader place s books at) at.taken
    (subst (λ (rs : List LabelledRun). AreRecounts b.tallies.branches rs b.tallies) is books.recounts) change in
    let same : b.tallies.branches ≡ new.tallies.branches = sym change.branches_stay in
    let P : Slot → Type 0 = λ x. AreEntriesOf b.tallies.branches x.run.entries in
    let here : P s = subst P (get_or_from_slice_get b.slots.items place s s at.stands) (All-get_or P b.slots.items place s (slice_get_within b.slots.items place s at.stands) books.runs) in
    let each : All P new.slots.items = subst (All P) (sym slots) (All-set P b.slots.items place (taken_slot policy s) (subst (AreEntriesOf b.tallies.branches) (sym (taken-entries policy s)) here) books.runs) in record {
      recounts = subst (λ (bs : List Bool). AreRecounts bs (left_of new.slots.items) new.tallies) same (subst (λ (rs : List LabelledRun). AreRecounts b.tallies.branches rs new.tallies) (sym now) recounts);
      failing = omega (arith, failing, step-fails b policy leader place s books at, ap failing_runs now);
      left = omega (arith, left, step-length b policy leader place s books at, ap length now);
      few = omega (arith, books.few, ap length slots, length-set b.slots.items place (taken_slot policy s));
      runs = subst (λ (bs : List Bool). All (λ (x : Slot). AreEntriesOf bs x.run.entries) new.slots.items) same each;
    }
