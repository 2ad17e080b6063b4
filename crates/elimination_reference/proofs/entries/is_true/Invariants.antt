use Rattle.std.proofs.Common.{◌≡◌, length}
use Rattle.std.specs.List.{list_any}
use Rattle.elimination_tallies.specs.Predicates.{is_true_in_entry}
use Rattle.elimination_reference.proofs.entries.is_true.Given as goal

abbrev pub invariant-loop-rest : goal.invariant-loop-rest
invariant-loop-rest l = list_any (is_true_in_entry l.branches l.fn.predicate) l.run.entries ≡ list_any (is_true_in_entry l.branches l.fn.predicate) l.rest

abbrev pub decreases-loop-rest : goal.decreases-loop-rest
decreases-loop-rest l = length l.rest
