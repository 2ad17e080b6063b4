-- Runs of a collection, put into slots one after another.
use Rattle.std.proofs.Common.{◌≡◌, ℕ, ◌+◌, ◌≤◌, Bool, true, List, [], ◌∷◌, ◌++◌, length, refl, sym, ap, subst, ◌∙◌, append_assoc, arith}
use Rattle.std.specs.Prelude.{All}
use Rattle.std.proofs.lemmas.List.{append-nil, length_push}
use Rattle.std.proofs.lemmas.List.Elements.{All-nil, All-push}
use Rattle.std.proofs.lemmas.List.Sums.{sum_by-cons}
use Rattle.elimination.specs.declared.books.Slot.{Slot}
use Rattle.elimination_tallies.specs.declared.labelled.LabelledRun.{LabelledRun}
use Rattle.elimination_tallies.specs.Recount.{failing_runs, is_failing}
use Rattle.elimination_tallies.specs.Runs.{AreEntriesOf}
use Rattle.elimination.specs.Slots.{left_of}
use Rattle.elimination_tallies.specs.Tallies.{one_if}
use Rattle.elimination_tallies.proofs.RecountLemmas.{fails-most}
use Rattle.elimination.proofs.StepLemmas.{prepend}

abbrev pub new_slot : LabelledRun → Slot
new_slot r = record { run = r; left = true }

-- the slots so far, of which so many fail, and the runs that are still to come
pub record Gathered (branches : List Bool) (slots : List Slot) (failing : ℕ) (rest all : List LabelledRun) : Type 0 where
  pub runs : left_of slots ++ rest ≡ all
  pub failing_are : failing + failing_runs rest ≡ failing_runs all
  pub as_many : length slots + length rest ≡ length all
  pub entries : All (λ (s : Slot). AreEntriesOf branches s.run.entries) slots

pub gathered-start : (branches : List Bool) (slots : List Slot) (rest all : List LabelledRun) → slots ≡ [] → rest ≡ all → Gathered branches slots 0 rest all
gathered-start branches slots rest all none same =
    subst (λ (ss : List Slot). Gathered branches ss 0 rest all) (sym none)
    (record { runs = same; failing_are = omega (arith, ap failing_runs same); as_many = omega (arith, ap length same); entries = All-nil (λ (s : Slot). AreEntriesOf branches s.run.entries) })

left-push : (slots : List Slot) (r : LabelledRun) → left_of (slots ++ new_slot r ∷ []) ≡ left_of slots ++ r ∷ []
left-push [] r = refl
left-push (s ∷ more) r = prepend s (left_of (more ++ new_slot r ∷ [])) (left_of more) (r ∷ []) (left-push more r)

pub gathered-step : (branches : List Bool) (slots new : List Slot) (failing : ℕ) (r : LabelledRun) (rest all : List LabelledRun) → Gathered branches slots failing (r ∷ rest) all → AreEntriesOf branches r.entries → new ≡ slots ++ new_slot r ∷ []
    → Gathered branches new (failing + one_if (is_failing r.label)) rest all
gathered-step branches slots new failing r rest all so_far are is =
    subst (λ (ss : List Slot). Gathered branches ss (failing + one_if (is_failing r.label)) rest all) (sym is) (record {
      runs = ap (λ (rs : List LabelledRun). rs ++ rest) (left-push slots r) ∙ append_assoc (left_of slots) (r ∷ []) rest ∙ so_far.runs;
      failing_are = omega (arith, so_far.failing_are, sum_by-cons (λ (x : LabelledRun). one_if (is_failing x.label)) r rest);
      as_many = omega (arith, so_far.as_many, length_push slots (new_slot r));
      entries = All-push (λ (s : Slot). AreEntriesOf branches s.run.entries) slots (new_slot r) so_far.entries are;
    })

pub gathered-runs : (branches : List Bool) (slots : List Slot) (failing : ℕ) (all : List LabelledRun) → Gathered branches slots failing [] all → left_of slots ≡ all
gathered-runs branches slots failing all end = sym (append-nil (left_of slots)) ∙ end.runs

pub gathered-next-fails : (branches : List Bool) (slots : List Slot) (failing : ℕ) (r : LabelledRun) (rest all : List LabelledRun) → Gathered branches slots failing (r ∷ rest) all → failing + one_if (is_failing r.label) ≤ length all
gathered-next-fails branches slots failing r rest all so_far =
    omega (arith, so_far.failing_are, sum_by-cons (λ (x : LabelledRun). one_if (is_failing x.label)) r rest, fails-most all)
