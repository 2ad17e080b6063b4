-- The kept numbers of all predicates, and how an entry of a run changes them.
use Rattle.std.specs.Prelude.{◌≡◌, ℕ, ◌+◌, ◌-◌, ◌^◌, ◌<◌, ◌≤◌, Bool, if◌then◌else◌, List, length, Some, slice_get, count_by}
use Rattle.fractions.specs.declared.tally.Tally.{Tally}
use Rattle.report_file.specs.declared.label.Label.{Label}
use Rattle.report_file.specs.declared.label.Label.TheVariants.{Fail, Pass, Uncounted}
use Rattle.report_file.specs.declared.report.Entry.{Entry}
use Rattle.elimination_tallies.specs.declared.labelled.LabelledRun.{LabelledRun}
use Rattle.elimination_tallies.specs.declared.numbers.Counted.{Counted}
use Rattle.elimination_tallies.specs.declared.numbers.Counted.TheVariants as counted
use Rattle.elimination_tallies.specs.declared.numbers.Change.{Change}
use Rattle.elimination_tallies.specs.declared.numbers.Change.TheVariants.{PutIn, TakeOut, MoveOver}
use Rattle.elimination_tallies.specs.Predicates.{predicates_in, is_observed_in_entry, is_true_in_entry}
use Rattle.elimination_tallies.specs.Recount.{recount}

-- which sites are branches, and the numbers of each predicate, in order
pub record Tallies : Type 0 where
  pub branches : List Bool
  pub tallies : List Tally

-- each predicate has its numbers over these runs
pub record AreRecounts (branches : List Bool) (runs : List LabelledRun) (t : Tallies) : Type 0 where
  pub branches_are : t.branches ≡ branches
  pub as_many : length t.tallies ≡ predicates_in branches
  pub numbers : (p : ℕ) → p < predicates_in branches → slice_get t.tallies p ≡ Some (recount branches runs p)

abbrev pub one_if : Bool → ℕ
one_if b = if b then 1 else 0

-- the numbers of a predicate after a change by entries of which so many observe it and so many make it true
abbrev pub tally_changed : Change → ℕ → ℕ → Tally → Tally
tally_changed (PutIn counted.Failing) observed true_in t = record t { a = t.a + true_in; c = t.c + observed }
tally_changed (PutIn counted.Successful) observed true_in t = record t { b = t.b + true_in; d = t.d + observed }
tally_changed (PutIn counted.Neither) observed true_in t = t
tally_changed (TakeOut counted.Failing) observed true_in t = record t { a = t.a - true_in; c = t.c - observed }
tally_changed (TakeOut counted.Successful) observed true_in t = record t { b = t.b - true_in; d = t.d - observed }
tally_changed (TakeOut counted.Neither) observed true_in t = t
tally_changed MoveOver observed true_in t = record { a = t.a - true_in; b = t.b + true_in; c = t.c - observed; d = t.d + observed }

-- the numbers that it lowers are great enough, and those that it raises have room
abbrev pub Allows : Change → ℕ → ℕ → Tally → Type 0
Allows (PutIn counted.Failing) observed true_in t = (t.a + true_in < 2 ^ 32) × (t.c + observed < 2 ^ 32)
Allows (PutIn counted.Successful) observed true_in t = (t.b + true_in < 2 ^ 32) × (t.d + observed < 2 ^ 32)
Allows (PutIn counted.Neither) observed true_in t = Unit {0}
Allows (TakeOut counted.Failing) observed true_in t = (true_in ≤ t.a) × (observed ≤ t.c)
Allows (TakeOut counted.Successful) observed true_in t = (true_in ≤ t.b) × (observed ≤ t.d)
Allows (TakeOut counted.Neither) observed true_in t = Unit {0}
Allows MoveOver observed true_in t = (true_in ≤ t.a) × (observed ≤ t.c) × (t.b + true_in ≤ 100000) × (t.d + observed ≤ 100000)

-- a change is allowed at each predicate p, where so many entries observe it and so many make it true
abbrev pub IsAllowed : Change → (ℕ → ℕ) → (ℕ → ℕ) → Tallies → Type 0
IsAllowed change observed true_in table = (p : ℕ) (t : Tally) → slice_get table.tallies p ≡ Some t → Allows change (observed p) (true_in p) t

-- it was made at each predicate
pub record IsMade (change : Change) (observed true_in : ℕ → ℕ) (old new : Tallies) : Type 0 where
  pub branches_stay : new.branches ≡ old.branches
  pub as_many : length new.tallies ≡ length old.tallies
  pub numbers : (p : ℕ) (t : Tally) → slice_get old.tallies p ≡ Some t → slice_get new.tallies p ≡ Some (tally_changed change (observed p) (true_in p) t)

-- so for one entry
abbrev pub AllowsEntry : Change → Entry → Tallies → Type 0
AllowsEntry change e table = IsAllowed change (λ p. one_if (is_observed_in_entry table.branches p e)) (λ p. one_if (is_true_in_entry table.branches p e)) table

abbrev pub ChangedBy : Change → Entry → Tallies → Tallies → Type 0
ChangedBy change e old new = IsMade change (λ p. one_if (is_observed_in_entry old.branches p e)) (λ p. one_if (is_true_in_entry old.branches p e)) old new

-- and for several
abbrev pub AllowsEntries : Change → List Entry → Tallies → Type 0
AllowsEntries change entries table =
    IsAllowed change (λ p. count_by (is_observed_in_entry table.branches p) entries) (λ p. count_by (is_true_in_entry table.branches p) entries) table

abbrev pub ChangedByAll : Change → List Entry → Tallies → Tallies → Type 0
ChangedByAll change entries old new =
    IsMade change (λ p. count_by (is_observed_in_entry old.branches p) entries) (λ p. count_by (is_true_in_entry old.branches p) entries) old new

-- what a run with this label is counted as
abbrev pub counted_as : Label → Counted
counted_as Fail = counted.Failing
counted_as Pass = counted.Successful
counted_as Uncounted = counted.Neither
