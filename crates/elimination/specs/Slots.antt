-- How an eliminator keeps its runs: each in a slot, with whether it is left.
use Rattle.std.specs.Prelude.{◌≡◌, ℕ, ◌<◌, ◌≤◌, ◌⊎◌, Bool, false, ◌&&◌, if◌then◌else◌, List, [], ◌∷◌, length, map, Some, slice_get, slice_set, Contains, All}
use Rattle.cbi_base.specs.declared.policy.Policy.{Policy}
use Rattle.cbi_base.specs.declared.policy.Policy.TheVariants.{All as Every, Failing, Relabel}
use Rattle.report_file.specs.declared.label.Label.{Label}
use Rattle.report_file.specs.declared.report.Entry.{Entry}
use Rattle.elimination_tallies.specs.declared.labelled.LabelledRun.{LabelledRun}
use Rattle.elimination.specs.declared.books.Slot.{Slot}
use Rattle.elimination.specs.declared.books.Books.{Books}
use Rattle.elimination.specs.Elimination.{is_taken, run_as_successful}
use Rattle.elimination_tallies.specs.Recount.{failing_runs}
use Rattle.elimination_tallies.specs.Runs.{AreEntriesOf}
use Rattle.elimination_tallies.specs.Tallies.{AreRecounts, counted_as}
use Rattle.elimination_tallies.specs.declared.numbers.Change.{Change}
use Rattle.elimination_tallies.specs.declared.numbers.Change.TheVariants.{MoveOver, TakeOut}

-- the runs that are left
abbrev pub left_of : List Slot → List LabelledRun
left_of [] = []
left_of (s ∷ more) = if s.left then s.run ∷ left_of more else left_of more

-- a slot whose run is taken
abbrev pub taken_slot : Policy → Slot → Slot
taken_slot Every s = record s { left = false }
taken_slot Failing s = record s { left = false }
taken_slot Relabel s = record s { run = run_as_successful s.run }

-- how many runs the policy discards with each that it takes
abbrev pub discard_count : Policy → ℕ
discard_count Every = 1
discard_count Failing = 1
discard_count Relabel = 0

-- how the policy's step changes the numbers by the entries of a run that it takes
abbrev pub change_of : Policy → Label → Change
change_of Every label = TakeOut (counted_as label)
change_of Failing label = TakeOut (counted_as label)
change_of Relabel label = MoveOver

-- whether the policy's step takes the run of the slot
abbrev pub takes_slot : List Bool → Policy → ℕ → Slot → Bool
takes_slot branches policy leader s = s.left && is_taken branches policy leader s.run

-- a slot after the policy's step
abbrev pub stepped_slot : List Bool → Policy → ℕ → Slot → Slot
stepped_slot branches policy leader s = if takes_slot branches policy leader s then taken_slot policy s else s

-- how many entries the step takes of it
abbrev pub slot_entries_taken : List Bool → Policy → ℕ → Slot → ℕ
slot_entries_taken branches policy leader s = if takes_slot branches policy leader s then length s.run.entries else 0

-- one place has stepped
pub record IsStepOf (policy : Policy) (leader place : ℕ) (old new : Books) : Type 0 where
  pub branches_stay : new.tallies.branches ≡ old.tallies.branches
  pub slots : (s : Slot) → slice_get old.slots.items place ≡ Some s
      → new.slots.items ≡ slice_set old.slots.items place (stepped_slot old.tallies.branches policy leader s)

-- these places have stepped, and no other slot has changed but by stepping
pub record HaveStepped (policy : Policy) (leader : ℕ) (places : List ℕ) (old new : Books) : Type 0 where
  pub branches_stay : new.tallies.branches ≡ old.tallies.branches
  pub slots : map (stepped_slot old.tallies.branches policy leader) new.slots.items ≡ map (stepped_slot old.tallies.branches policy leader) old.slots.items
  pub settled : (k : ℕ) (s : Slot) → Contains places k → slice_get new.slots.items k ≡ Some s → takes_slot old.tallies.branches policy leader s ≡ false

-- what is kept of the runs: their numbers, how many fail and how many are left
pub record AreBooks (b : Books) : Type 0 where
  pub recounts : AreRecounts b.tallies.branches (left_of b.slots.items) b.tallies
  pub failing : b.failing ≡ failing_runs (left_of b.slots.items)
  pub left : b.left ≡ length (left_of b.slots.items)
  pub few : length b.slots.items ≤ 100000
  pub runs : All (λ (s : Slot). AreEntriesOf b.tallies.branches s.run.entries) b.slots.items

-- of each site these are places of slots, and each slot with an entry of a site stands among those of the site
pub record AreHolders (sites : ℕ) (slots : List Slot) (holders : List (List ℕ)) : Type 0 where
  pub as_many : length holders ≡ sites
  pub each : (k : ℕ) (s : Slot) (e : Entry) (places : List ℕ) → slice_get slots k ≡ Some s → Contains s.run.entries e
      → slice_get holders e.site ≡ Some places → Contains places k
  pub places : (site : ℕ) (places : List ℕ) → slice_get holders site ≡ Some places → All (λ k. k < length slots) places

-- the place of one more run stands with those of each site that it has an entry of, and with no other
pub record IsHeldToo (place : ℕ) (entries : List Entry) (old new : List (List ℕ)) : Type 0 where
  pub as_many : length new ≡ length old
  pub own : (e : Entry) (places : List ℕ) → Contains entries e → slice_get new e.site ≡ Some places → Contains places place
  pub others : (site k : ℕ) (before places : List ℕ) → slice_get old site ≡ Some before → slice_get new site ≡ Some places → Contains before k
      → Contains places k
  pub only : (site k : ℕ) (before places : List ℕ) → slice_get old site ≡ Some before → slice_get new site ≡ Some places → Contains places k
      → Contains before k ⊎ (k ≡ place)
