use Rattle.std.proofs.Common.{◌≡◌, false, take}
use Rattle.std.specs.List.{list_any}
use Rattle.elimination_tallies.specs.Predicates.{is_true_in_entry}
use Rattle.elimination_tallies.proofs.numbers.is_true.Given as goal

abbrev pub invariant-loop-entry : goal.invariant-loop-entry
invariant-loop-entry l = list_any (is_true_in_entry l.numbers.branches l.predicate) (take l.entry-index l.entries) ≡ false
