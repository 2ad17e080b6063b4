-- The policy's step at one run.
use Rattle.std.proofs.Common.{◌≡◌, ℕ, zero, suc, ◌+◌, ◌≤◌, Bool, true, false, cond, List, [], ◌∷◌, ◌++◌, length, set, take, drop, Some, refl, sym, ap, ◌∙◌, arith}
use Rattle.std.specs.Prelude.{All, slice_get}
use Rattle.std.proofs.lemmas.Bool.{and_parts}
use Rattle.std.proofs.lemmas.List.{length-append}
use Rattle.std.proofs.lemmas.List.Elements.{All-cons, All-head, All-nil, All-tail}
use Rattle.cbi_base.specs.declared.policy.Policy.{Policy}
use Rattle.cbi_base.specs.declared.policy.Policy.TheVariants.{All as Every, Failing, Relabel}
use Rattle.report_file.specs.declared.label.Label.{Label}
use Rattle.report_file.specs.declared.label.Label.TheVariants.{Fail, Pass, Uncounted}
use Rattle.elimination.specs.declared.books.Slot.{Slot}
use Rattle.elimination_tallies.specs.declared.labelled.LabelledRun.{LabelledRun}
use Rattle.elimination.specs.Elimination.{is_taken, run_as_successful}
use Rattle.elimination_tallies.specs.Recount.{failing_runs, is_failing, is_true}
use Rattle.elimination_tallies.specs.Runs.{AreEntriesOf, AreRunsOf}
use Rattle.elimination.specs.Slots.{change_of, discard_count, left_of, taken_slot}
use Rattle.elimination_tallies.specs.Tallies.{AllowsEntries, AreRecounts, ChangedByAll, Tallies, one_if}
use Rattle.elimination_tallies.proofs.RunChanges.{AreWell, fails-middle, move-over-allowed, move-over-recounts, take-out-allowed, take-out-recounts}

-- the runs with one of them taken
abbrev pub rest_of : Policy → List LabelledRun → LabelledRun → List LabelledRun → List LabelledRun
rest_of Every xs r ys = xs ++ ys
rest_of Failing xs r ys = xs ++ ys
rest_of Relabel xs r ys = xs ++ run_as_successful r ∷ ys

label-fails : (l : Label) → is_failing l ≡ true → l ≡ Fail
label-fails Fail is = refl
label-fails Pass is = absurd cc
label-fails Uncounted is = absurd cc

pub taken-allowed : (branches : List Bool) (policy : Policy) (leader : ℕ) (xs ys : List LabelledRun) (r : LabelledRun) (table : Tallies) → AreRunsOf branches (xs ++ r ∷ ys) → length (xs ++ r ∷ ys) ≤ 100000 → is_taken branches policy leader r ≡ true
    → AreRecounts branches (xs ++ r ∷ ys) table → AllowsEntries (change_of policy r.label) r.entries table
taken-allowed branches Every leader xs ys r table are few taken recounts = take-out-allowed branches xs ys r table are recounts
taken-allowed branches Failing leader xs ys r table are few taken recounts = take-out-allowed branches xs ys r table are recounts
taken-allowed branches Relabel leader xs ys r table are few taken recounts =
    move-over-allowed branches xs ys r table (label-fails r.label (and_parts (is_failing r.label) (is_true branches leader r) taken).0) are few recounts

pub taken-recounts : (branches : List Bool) (policy : Policy) (leader : ℕ) (xs ys : List LabelledRun) (r : LabelledRun) (table new : Tallies) → AreRunsOf branches (xs ++ r ∷ ys) → is_taken branches policy leader r ≡ true
    → AreRecounts branches (xs ++ r ∷ ys) table → ChangedByAll (change_of policy r.label) r.entries table new → AreRecounts branches (rest_of policy xs r ys) new
taken-recounts branches Every leader xs ys r table new are taken recounts change = take-out-recounts branches xs ys r table new are recounts change
taken-recounts branches Failing leader xs ys r table new are taken recounts change = take-out-recounts branches xs ys r table new are recounts change
taken-recounts branches Relabel leader xs ys r table new are taken recounts change =
    move-over-recounts branches xs ys r table new (label-fails r.label (and_parts (is_failing r.label) (is_true branches leader r) taken).0) are recounts change

-- how many fail and how many there are
pub rest-fails : (policy : Policy) (xs ys : List LabelledRun) (r : LabelledRun) → failing_runs (xs ++ r ∷ ys) ≡ failing_runs (rest_of policy xs r ys) + one_if (is_failing r.label)
rest-fails Every xs ys r = fails-middle xs ys r
rest-fails Failing xs ys r = fails-middle xs ys r
rest-fails Relabel xs ys r = omega (arith, fails-middle xs ys r, fails-middle xs ys (run_as_successful r))

pub rest-length : (policy : Policy) (xs ys : List LabelledRun) (r : LabelledRun) → length (xs ++ r ∷ ys) ≡ length (rest_of policy xs r ys) + discard_count policy
rest-length Every xs ys r = omega (arith, length-append xs (r ∷ ys), length-append xs ys)
rest-length Failing xs ys r = omega (arith, length-append xs (r ∷ ys), length-append xs ys)
rest-length Relabel xs ys r = omega (arith, length-append xs (r ∷ ys), length-append xs (run_as_successful r ∷ ys))

-- the runs left before and behind a slot
abbrev pub before_slot : ℕ → List Slot → List LabelledRun
before_slot k slots = left_of (take k slots)

abbrev pub behind_slot : ℕ → List Slot → List LabelledRun
behind_slot k slots = left_of (drop (suc k) slots)

left-first : (s : Slot) (more : List Slot) → s.left ≡ true → left_of (s ∷ more) ≡ s.run ∷ left_of more
left-first s more left = ap (λ b. cond b (s.run ∷ left_of more) (left_of more)) left

-- a slot in front of others
pub prepend : (x : Slot) (all front back : List LabelledRun) → all ≡ front ++ back → cond x.left (x.run ∷ all) all ≡ cond x.left (x.run ∷ front) front ++ back
prepend x all front back is = elim x.left as (λ b. cond b (x.run ∷ all) all ≡ cond b (x.run ∷ front) front ++ back) [ true ↦ ap (λ rs. x.run ∷ rs) is | false ↦ is ]

pub left-middle : (slots : List Slot) (k : ℕ) (s : Slot) → slice_get slots k ≡ Some s → s.left ≡ true → left_of slots ≡ before_slot k slots ++ s.run ∷ behind_slot k slots
left-middle [] k s is left = absurd cc
left-middle (x ∷ more) zero s is left =
    let same : x ≡ s = cc in
    left-first x more (ap (λ (y : Slot). y.left) same ∙ left) ∙ ap (λ (y : Slot). y.run ∷ left_of more) same
left-middle (x ∷ more) (suc k) s is left = prepend x (left_of more) (before_slot k more) (s.run ∷ behind_slot k more) (left-middle more k s is left)

set-first : (policy : Policy) (s : Slot) (more : List Slot) → s.left ≡ true → left_of (taken_slot policy s ∷ more) ≡ rest_of policy [] s.run (left_of more)
set-first Every s more left = refl
set-first Failing s more left = refl
set-first Relabel s more left = ap (λ b. cond b (run_as_successful s.run ∷ left_of more) (left_of more)) left

rest-split : (policy : Policy) (xs ys : List LabelledRun) (r : LabelledRun) → rest_of policy xs r ys ≡ xs ++ rest_of policy [] r ys
rest-split Every xs ys r = refl
rest-split Failing xs ys r = refl
rest-split Relabel xs ys r = refl

set-back : (policy : Policy) (slots : List Slot) (k : ℕ) (s : Slot) → slice_get slots k ≡ Some s → s.left ≡ true → left_of (set slots k (taken_slot policy s)) ≡ before_slot k slots ++ rest_of policy [] s.run (behind_slot k slots)
set-back policy [] k s is left = absurd cc
set-back policy (x ∷ more) zero s is left = set-first policy s more left
set-back policy (x ∷ more) (suc k) s is left = prepend x (left_of (set more k (taken_slot policy s))) (before_slot k more) (rest_of policy [] s.run (behind_slot k more)) (set-back policy more k s is left)

-- the runs left once the run of a slot is taken
pub left-set : (policy : Policy) (slots : List Slot) (k : ℕ) (s : Slot) → slice_get slots k ≡ Some s → s.left ≡ true → left_of (set slots k (taken_slot policy s)) ≡ rest_of policy (before_slot k slots) s.run (behind_slot k slots)
left-set policy slots k s is left = set-back policy slots k s is left ∙ sym (rest-split policy (before_slot k slots) (behind_slot k slots) s.run)

left-well-by : (branches : List Bool) (s : Slot) (more : List LabelledRun) (b : Bool) → AreWell branches s.run → AreRunsOf branches more → AreRunsOf branches (cond b (s.run ∷ more) more)
left-well-by branches s more true here rest = All-cons (AreWell branches) s.run more here rest
left-well-by branches s more false here rest = rest

-- the runs left are well formed, and no more than the slots
pub left-well : (branches : List Bool) (slots : List Slot) → All (λ (s : Slot). AreEntriesOf branches s.run.entries) slots → AreRunsOf branches (left_of slots)
left-well branches [] are = All-nil (AreWell branches)
left-well branches (s ∷ more) are =
    left-well-by branches s (left_of more) s.left (All-head (λ (x : Slot). AreEntriesOf branches x.run.entries) s more are) (left-well branches more (All-tail (λ (x : Slot). AreEntriesOf branches x.run.entries) s more are))

left-most-by : (r : LabelledRun) (runs : List LabelledRun) (b : Bool) (n : ℕ) → length runs ≤ n → length (cond b (r ∷ runs) runs) ≤ n + 1
left-most-by r runs true n most = omega arith
left-most-by r runs false n most = omega arith

pub left-most : (slots : List Slot) → length (left_of slots) ≤ length slots
left-most [] = omega arith
left-most (s ∷ more) = omega (arith, left-most-by s.run (left_of more) s.left (length more) (left-most more))

pub taken-entries : (policy : Policy) (s : Slot) → (taken_slot policy s).run.entries ≡ s.run.entries
taken-entries Every s = refl
taken-entries Failing s = refl
taken-entries Relabel s = refl
