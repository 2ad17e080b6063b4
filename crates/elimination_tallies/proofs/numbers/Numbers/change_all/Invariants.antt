use Rattle.std.proofs.Common.{take}
use Rattle.std.specs.Prelude.{count_by}
use Rattle.elimination_tallies.specs.Predicates.{is_observed_in_entry, is_true_in_entry}
use Rattle.elimination_tallies.specs.Tallies.{IsMade}
use Rattle.elimination_tallies.proofs.numbers.Numbers.change_all.Given as goal

abbrev pub invariant-loop-entry : goal.invariant-loop-entry
invariant-loop-entry l =
    IsMade l.change (λ p. count_by (is_observed_in_entry l.initial.self.branches p) (take l.entry-index l.entries)) (λ p. count_by (is_true_in_entry l.initial.self.branches p) (take l.entry-index l.entries)) l.initial.self l.self
