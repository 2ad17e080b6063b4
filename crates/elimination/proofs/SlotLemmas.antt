-- The policy's step at some runs, and at all that it takes.
use Rattle.std.proofs.Common.{◌≡◌, ◌≢◌, ℕ, zero, suc, ◌+◌, ◌<◌, Bool, true, false, not, ◌&&◌, cond, ◌⊎◌, inl, inr, List, [], ◌∷◌, length, get_or, set, take, Some, refl, sym, ap, subst, ◌∙◌, arith}
use Rattle.std.specs.Prelude.{All, Contains, map, slice_get, sum_by}
use Rattle.std.specs.List.{list_any}
use Rattle.std.proofs.lemmas.Bool.{and_parts, and_right, cases_Bool, cases_eq, cond-false, cond-true, false≢true, false_from_ne_true, or_cases}
use Rattle.std.proofs.lemmas.List.{get_or-set_other, get_or-set_same, length-map, length-set, map-set, set-get_or, take_more, get_or-map}
use Rattle.std.proofs.lemmas.List.Elements.{Contains-push_cases}
use Rattle.std.proofs.lemmas.List.Folds.{map_fixed}
use Rattle.std.proofs.lemmas.List.Sums.{sum_by-cons, sum_by-set}
use Rattle.std.proofs.lemmas.Option.{get_or_from_slice_get, slice_get-get_or, slice_get_within}
use Rattle.cbi_base.specs.declared.policy.Policy.{Policy}
use Rattle.cbi_base.specs.declared.policy.Policy.TheVariants.{All as Every, Failing, Relabel}
use Rattle.report_file.specs.declared.report.Entry.{Entry}
use Rattle.elimination.specs.declared.books.Books.{Books}
use Rattle.elimination.specs.declared.books.Slot.{Slot}
use Rattle.elimination_tallies.specs.declared.labelled.LabelledRun.{LabelledRun}
use Rattle.elimination.specs.Elimination.{runs_after_leader, entries_taken, is_taken, run_as_successful}
use Rattle.elimination_tallies.specs.Predicates.{is_of, is_true_in_entry}
use Rattle.elimination_tallies.specs.Recount.{is_failing, is_true}
use Rattle.elimination.specs.Slots.{AreHolders, HaveStepped, IsStepOf, left_of, slot_entries_taken, stepped_slot, taken_slot, takes_slot}
use Rattle.elimination_tallies.proofs.PredicateLemmas.{of-once, shows-of}
use Rattle.elimination.proofs.StepLemmas.{taken-entries}

-- a slot that was taken is taken no more
taken-settles : (branches : List Bool) (policy : Policy) (leader : ℕ) (s : Slot) → takes_slot branches policy leader (taken_slot policy s) ≡ false
taken-settles branches Every leader s = refl
taken-settles branches Failing leader s = refl
taken-settles branches Relabel leader s = and_right s.left (is_failing (run_as_successful s.run).label && is_true branches leader (run_as_successful s.run)) refl

pub step-settles : (branches : List Bool) (policy : Policy) (leader : ℕ) (s : Slot) → takes_slot branches policy leader (stepped_slot branches policy leader s) ≡ false
step-settles branches policy leader s =
    elim (cases_Bool (takes_slot branches policy leader s)) [
      | inl has ↦ ap (takes_slot branches policy leader) (cond-true (takes_slot branches policy leader s) (taken_slot policy s) s has) ∙ taken-settles branches policy leader s
      | inr lacks ↦ ap (takes_slot branches policy leader) (cond-false (takes_slot branches policy leader s) (taken_slot policy s) s lacks) ∙ lacks
    ]

pub settled-stays : (branches : List Bool) (policy : Policy) (leader : ℕ) (s : Slot) → takes_slot branches policy leader s ≡ false → stepped_slot branches policy leader s ≡ s
settled-stays branches policy leader s lacks = cond-false (takes_slot branches policy leader s) (taken_slot policy s) s lacks

pub step-again : (branches : List Bool) (policy : Policy) (leader : ℕ) (s : Slot) → stepped_slot branches policy leader (stepped_slot branches policy leader s) ≡ stepped_slot branches policy leader s
step-again branches policy leader s = settled-stays branches policy leader (stepped_slot branches policy leader s) (step-settles branches policy leader s)

pub step-entries : (branches : List Bool) (policy : Policy) (leader : ℕ) (s : Slot) → (stepped_slot branches policy leader s).run.entries ≡ s.run.entries
step-entries branches policy leader s =
    elim (cases_Bool (takes_slot branches policy leader s)) [
      | inl has ↦ ap (λ (x : Slot). x.run.entries) (cond-true (takes_slot branches policy leader s) (taken_slot policy s) s has) ∙ taken-entries policy s
      | inr lacks ↦ ap (λ (x : Slot). x.run.entries) (settled-stays branches policy leader s lacks)
    ]

pub settled-pends : (branches : List Bool) (policy : Policy) (leader : ℕ) (s : Slot) → takes_slot branches policy leader s ≡ false → slot_entries_taken branches policy leader s ≡ 0
settled-pends branches policy leader s lacks = cond-false (takes_slot branches policy leader s) (length s.run.entries) 0 lacks

-- a slot of a list in which one was set
set-cases : (slots : List Slot) (i k : ℕ) (y s : Slot) → i < length slots → slice_get (set slots i y) k ≡ Some s → ((k ≡ i) × (s ≡ y)) ⊎ ((k ≢ i) × (slice_get slots k ≡ Some s))
set-cases slots i k y s inside is =
    let within : k < length slots = omega (arith, slice_get_within (set slots i y) k s is, length-set slots i y) in
    let there : get_or (set slots i y) k s ≡ s = get_or_from_slice_get (set slots i y) k s s is in
    elim (cases_eq k i) [
      | inl same ↦ inl (same, sym there ∙ ap (λ n. get_or (set slots i y) n s) same ∙ get_or-set_same slots i y s inside)
      | inr other ↦ inr (other, slice_get-get_or slots k s within ∙ ap Some (sym (get_or-set_other slots i k y s other) ∙ there))
    ]

step-map : (branches : List Bool) (policy : Policy) (leader i : ℕ) (slots : List Slot) (s : Slot) → slice_get slots i ≡ Some s → map (stepped_slot branches policy leader) (set slots i (stepped_slot branches policy leader s)) ≡ map (stepped_slot branches policy leader) slots
step-map branches policy leader i slots s is =
    let f = stepped_slot branches policy leader in
    let inside = slice_get_within slots i s is in
    let here : f (f s) ≡ get_or (map f slots) i s = step-again branches policy leader s ∙ ap f (sym (get_or_from_slice_get slots i s s is)) ∙ sym (get_or-map f slots i s s inside) in
    map-set f slots i (f s) ∙ ap (set (map f slots) i) here ∙ set-get_or (map f slots) i s

no-member : (k : ℕ) → Contains {X = ℕ} [] k → ⊥
no-member k has = absurd (omega (arith, has.1))

pub stepped-none : (policy : Policy) (leader : ℕ) (b : Books) → HaveStepped policy leader [] b b
stepped-none policy leader b = record { branches_stay = refl; slots = refl; settled = λ k s has is. absurd (no-member k has) }

pub stepped-more : (policy : Policy) (leader j place : ℕ) (places : List ℕ) (b0 b new : Books) (s : Slot) → j < length places → place ≡ get_or places j place → slice_get b.slots.items place ≡ Some s → HaveStepped policy leader (take j places) b0 b → IsStepOf policy leader place b new
    → HaveStepped policy leader (take (j + 1) places) b0 new
stepped-more policy leader j place places b0 b new s less at is so_far step =
    let bs = b0.tallies.branches in
    let slots : new.slots.items ≡ set b.slots.items place (stepped_slot bs policy leader s) = step.slots s is ∙ ap (λ (xs : List Bool). set b.slots.items place (stepped_slot xs policy leader s)) so_far.branches_stay in record {
      branches_stay = step.branches_stay ∙ so_far.branches_stay;
      slots = ap (map (stepped_slot bs policy leader)) slots ∙ step-map bs policy leader place b.slots.items s is ∙ so_far.slots;
      settled = λ k x has stands.
          elim (set-cases b.slots.items place k (stepped_slot bs policy leader s) x (slice_get_within b.slots.items place s is) (sym (ap (λ (xs : List Slot). slice_get xs k) slots) ∙ stands)) [
            | inl here ↦ ap (takes_slot bs policy leader) here.1 ∙ step-settles bs policy leader s
            | inr other ↦
                elim (Contains-push_cases (take j places) (get_or places j place) k (subst (λ (xs : List ℕ). Contains xs k) (take_more places j place less) has)) [
                  | inl before ↦ so_far.settled k x before other.1
                  | inr same ↦ absurd (other.0 (sym same ∙ sym at))
                ]
          ];
    }

-- how many entries are still to be taken
pub pending-step : (branches : List Bool) (policy : Policy) (leader i : ℕ) (slots : List Slot) (s : Slot) → slice_get slots i ≡ Some s
    → sum_by (slot_entries_taken branches policy leader) (set slots i (stepped_slot branches policy leader s)) + slot_entries_taken branches policy leader s ≡ sum_by (slot_entries_taken branches policy leader) slots
pending-step branches policy leader i slots s is =
    omega (
      arith,
      sum_by-set (slot_entries_taken branches policy leader) slots i (stepped_slot branches policy leader s) s (slice_get_within slots i s is),
      ap (slot_entries_taken branches policy leader) (get_or_from_slice_get slots i s s is),
      settled-pends branches policy leader (stepped_slot branches policy leader s) (step-settles branches policy leader s),
    )

pub stepped-pends : (branches : List Bool) (policy : Policy) (leader : ℕ) (slots : List Slot) → sum_by (slot_entries_taken branches policy leader) (map (stepped_slot branches policy leader) slots) ≡ 0
stepped-pends branches policy leader [] = refl
stepped-pends branches policy leader (s ∷ more) =
    omega (
      arith,
      sum_by-cons (slot_entries_taken branches policy leader) (stepped_slot branches policy leader s) (map (stepped_slot branches policy leader) more),
      settled-pends branches policy leader (stepped_slot branches policy leader s) (step-settles branches policy leader s),
      stepped-pends branches policy leader more,
    )

pending-by : (branches : List Bool) (policy : Policy) (leader : ℕ) (run : LabelledRun) (left : Bool) (more : List LabelledRun) (n : ℕ) → n ≡ entries_taken branches policy leader more
    → cond (left && is_taken branches policy leader run) (length run.entries) 0 + n ≡ entries_taken branches policy leader (cond left (run ∷ more) more)
pending-by branches policy leader run true more n is = omega (arith, is, sum_by-cons (λ (r : LabelledRun). cond (is_taken branches policy leader r) (length r.entries) 0) run more)
pending-by branches policy leader run false more n is = omega (arith, is)

pub pending-is : (branches : List Bool) (policy : Policy) (leader : ℕ) (slots : List Slot) → sum_by (slot_entries_taken branches policy leader) slots ≡ entries_taken branches policy leader (left_of slots)
pending-is branches policy leader [] = refl
pending-is branches policy leader (s ∷ more) =
    sum_by-cons (slot_entries_taken branches policy leader) s more ∙ pending-by branches policy leader s.run s.left (left_of more) (sum_by (slot_entries_taken branches policy leader) more) (pending-is branches policy leader more)

-- the runs left by a step at all slots are those that the policy leaves
abbrev step_by : Bool → Policy → Slot → Slot
step_by taken policy s = cond taken (taken_slot policy s) s

abbrev left_by : Slot → List LabelledRun → List LabelledRun
left_by s rest = cond s.left (s.run ∷ rest) rest

after-first : (branches : List Bool) (policy : Policy) (leader : ℕ) (run : LabelledRun) (left taken : Bool) (more : List LabelledRun) → is_taken branches policy leader run ≡ taken
    → left_by (step_by (left && taken) policy (record { run = run; left = left })) (runs_after_leader branches policy leader more) ≡ runs_after_leader branches policy leader (cond left (run ∷ more) more)
after-first branches policy leader run false taken more is = refl
after-first branches Relabel leader run true true more is = sym (ap (λ b. cond b (run_as_successful run) run ∷ runs_after_leader branches Relabel leader more) is)
after-first branches Relabel leader run true false more is = sym (ap (λ b. cond b (run_as_successful run) run ∷ runs_after_leader branches Relabel leader more) is)
after-first branches Every leader run true true more is = sym (ap (λ b. cond (not b) (run ∷ runs_after_leader branches Every leader more) (runs_after_leader branches Every leader more)) is)
after-first branches Every leader run true false more is = sym (ap (λ b. cond (not b) (run ∷ runs_after_leader branches Every leader more) (runs_after_leader branches Every leader more)) is)
after-first branches Failing leader run true true more is = sym (ap (λ b. cond (not b) (run ∷ runs_after_leader branches Failing leader more) (runs_after_leader branches Failing leader more)) is)
after-first branches Failing leader run true false more is = sym (ap (λ b. cond (not b) (run ∷ runs_after_leader branches Failing leader more) (runs_after_leader branches Failing leader more)) is)

pub left-after : (branches : List Bool) (policy : Policy) (leader : ℕ) (slots : List Slot) → left_of (map (stepped_slot branches policy leader) slots) ≡ runs_after_leader branches policy leader (left_of slots)
left-after branches Every leader [] = refl
left-after branches Failing leader [] = refl
left-after branches Relabel leader [] = refl
left-after branches policy leader (s ∷ more) =
    ap (left_by (stepped_slot branches policy leader s)) (left-after branches policy leader more) ∙ after-first branches policy leader s.run s.left (is_taken branches policy leader s.run) (left_of more) refl

Contains-head : (x : Entry) (more : List Entry) → Contains (x ∷ more) x
Contains-head x more = (0, omega arith, refl)

Contains-tail : (x : Entry) (more : List Entry) (e : Entry) → Contains more e → Contains (x ∷ more) e
Contains-tail x more e has = (suc has.0, omega (arith, has.1), has.2)

-- an entry that passes
any-entry : (test : Entry → Bool) (entries : List Entry) → list_any test entries ≡ true → (e : Entry) × Contains entries e × (test e ≡ true)
any-entry test [] has = absurd (false≢true has)
any-entry test (x ∷ more) has =
    elim (or_cases (test x) (list_any test more) has) [
      | inl here ↦ (x, Contains-head x more, here)
      | inr later ↦
          let found = any-entry test more later in
          (found.0, Contains-tail x more found.0 found.1, found.2)
    ]

taken-true : (branches : List Bool) (policy : Policy) (leader : ℕ) (r : LabelledRun) → is_taken branches policy leader r ≡ true → is_true branches leader r ≡ true
taken-true branches Every leader r has = has
taken-true branches Failing leader r has = (and_parts (is_failing r.label) (is_true branches leader r) has).1
taken-true branches Relabel leader r has = (and_parts (is_failing r.label) (is_true branches leader r) has).1

-- the entries of the slots stay
pub same-entries : (branches : List Bool) (policy : Policy) (leader k : ℕ) (old new : List Slot) (x : Slot) → map (stepped_slot branches policy leader) new ≡ map (stepped_slot branches policy leader) old → slice_get new k ≡ Some x → (s : Slot) × (slice_get old k ≡ Some s) × (s.run.entries ≡ x.run.entries)
same-entries branches policy leader k old new x same is =
    let f = stepped_slot branches policy leader in
    let inside : k < length old = omega (arith, slice_get_within new k x is, length-map new f, length-map old f, ap length same) in
    let s = get_or old k x in
    let both : f s ≡ f x =
    sym (get_or-map f old k x x inside) ∙ sym (ap (λ (xs : List Slot). get_or xs k x) same) ∙ get_or-map f new k x x (slice_get_within new k x is) ∙ ap f (get_or_from_slice_get new k x x is) in
    (s, slice_get-get_or old k x inside, sym (step-entries branches policy leader s) ∙ ap (λ (y : Slot). y.run.entries) both ∙ step-entries branches policy leader x)

pub all-settled : (branches : List Bool) (policy : Policy) (leader site : ℕ) (places : List ℕ) (holders : List (List ℕ)) (old new : List Slot) → is_of branches site leader ≡ true → slice_get holders site ≡ Some places → AreHolders (length branches) old holders
    → map (stepped_slot branches policy leader) new ≡ map (stepped_slot branches policy leader) old → ((k : ℕ) (s : Slot) → Contains places k → slice_get new k ≡ Some s → takes_slot branches policy leader s ≡ false) → (k : ℕ) (x : Slot) → slice_get new k ≡ Some x → takes_slot branches policy leader x ≡ false
all-settled branches policy leader site places holders old new own at held same settled k x is =
    false_from_ne_true (takes_slot branches policy leader x) (λ has.
    let true_in = taken-true branches policy leader x.run (and_parts x.left (is_taken branches policy leader x.run) has).1 in
    let found = any-entry (is_true_in_entry branches leader) x.run.entries true_in in
    let here : found.0.site ≡ site = of-once branches found.0.site site leader (shows-of branches leader found.0 found.2) own in
    let before = same-entries branches policy leader k old new x same is in
    let member : Contains before.0.run.entries found.0 = subst (λ (es : List Entry). Contains es found.0) (sym before.2) found.1 in
    let place = held.each k before.0 found.0 places before.1 member (ap (slice_get holders) here ∙ at) in
    false≢true (sym (settled k x place is) ∙ has))

pub settled-all : (branches : List Bool) (policy : Policy) (leader : ℕ) (old new : List Slot) → map (stepped_slot branches policy leader) new ≡ map (stepped_slot branches policy leader) old → ((k : ℕ) (x : Slot) → slice_get new k ≡ Some x → takes_slot branches policy leader x ≡ false)
    → new ≡ map (stepped_slot branches policy leader) old
settled-all branches policy leader old new same settled =
    sym (map_fixed (stepped_slot branches policy leader) new (λ k x less. settled-stays branches policy leader (get_or new k x) (settled k (get_or new k x) (slice_get-get_or new k x less)))) ∙ same

-- the holders stay those of the slots
pub holders-stay : (branches : List Bool) (policy : Policy) (leader sites : ℕ) (holders : List (List ℕ)) (old new : List Slot) → AreHolders sites old holders → map (stepped_slot branches policy leader) new ≡ map (stepped_slot branches policy leader) old → AreHolders sites new holders
holders-stay branches policy leader sites holders old new held same =
    let f = stepped_slot branches policy leader in
    let len : length new ≡ length old = omega (arith, length-map new f, length-map old f, ap length same) in record {
      as_many = held.as_many;
      each = λ k x e places is member at.
          let before = same-entries branches policy leader k old new x same is in
          held.each k before.0 e places before.1 (subst (λ (es : List Entry). Contains es e) (sym before.2) member) at;
      places = λ site places at. subst (λ (n : ℕ). All (λ k. k < n) places) (sym len) (held.places site places at);
    }

pub slot-there : (slots : List Slot) (k : ℕ) → k < length slots → (s : Slot) × (slice_get slots k ≡ Some s)
slot-there [] k less = absurd (omega arith)
slot-there (s ∷ more) zero less = (s, refl)
slot-there (s ∷ more) (suc k) less = slot-there more k (omega arith)

pub pending-more : (policy : Policy) (leader place steps more all : ℕ) (b0 b new : Books) (s : Slot) → slice_get b.slots.items place ≡ Some s → b.tallies.branches ≡ b0.tallies.branches → IsStepOf policy leader place b new
    → more ≡ steps + slot_entries_taken b.tallies.branches policy leader s → steps + sum_by (slot_entries_taken b0.tallies.branches policy leader) b.slots.items ≡ all → more + sum_by (slot_entries_taken b0.tallies.branches policy leader) new.slots.items ≡ all
pending-more policy leader place steps more all b0 b new s is branches step steps_are sums =
    let bs = b0.tallies.branches in
    let slots : new.slots.items ≡ set b.slots.items place (stepped_slot bs policy leader s) = step.slots s is ∙ ap (λ (xs : List Bool). set b.slots.items place (stepped_slot xs policy leader s)) branches in
    let here : more ≡ steps + slot_entries_taken bs policy leader s = steps_are ∙ ap (λ (xs : List Bool). steps + slot_entries_taken xs policy leader s) branches in
    omega (arith, here, sums, pending-step bs policy leader place b.slots.items s is, ap (sum_by (slot_entries_taken bs policy leader)) slots)

-- all slots have stepped, once those of the places have that hold the leader's site
pub step-complete : (policy : Policy) (leader site : ℕ) (places : List ℕ) (holders : List (List ℕ)) (b new : Books) → is_of b.tallies.branches site leader ≡ true → slice_get holders site ≡ Some places → AreHolders (length b.tallies.branches) b.slots.items holders → HaveStepped policy leader places b new
    → new.slots.items ≡ map (stepped_slot b.tallies.branches policy leader) b.slots.items
step-complete policy leader site places holders b new own at held step =
    settled-all b.tallies.branches policy leader b.slots.items new.slots.items step.slots (all-settled b.tallies.branches policy leader site places holders b.slots.items new.slots.items own at held step.slots step.settled)
