-- The changes of a site's predicates as far as they were made.
use Rattle.std.proofs.Common.{◌≡◌, ℕ, ◌+◌, ◌<◌, ◌≤◌, Bool, List, Some}
use Rattle.std.specs.Prelude.{slice_get}
use Rattle.cbi_base.specs.declared.outcome.Counts.{Counts}
use Rattle.fractions.specs.declared.tally.Tally.{Tally}
use Rattle.elimination_tallies.specs.declared.numbers.Change.{Change}
use Rattle.elimination_tallies.specs.Predicates.{makes_true}
use Rattle.elimination_tallies.specs.Tallies.{tally_changed, one_if}

pub record SoFar (change : Change) (branch : Bool) (counts : Counts) (start number : ℕ) (old now : List Tally) : Type 0 where
  pub inside : (n : ℕ) (t : Tally) → n < number → slice_get old (start + n) ≡ Some t → slice_get now (start + n) ≡ Some (tally_changed change 1 (one_if (makes_true branch n counts)) t)
  pub before : (p : ℕ) → p < start → slice_get now p ≡ slice_get old p
  pub behind : (p : ℕ) → start + number ≤ p → slice_get now p ≡ slice_get old p
