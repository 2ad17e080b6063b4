use Rattle.std.proofs.Common.{◌≡◌, ℕ, length, take, get_or}
use Rattle.elimination_tallies.specs.Predicates.{is_true_in_entry}
use Rattle.compound_counts.proofs.Seeing.{AreSeenBy}
use Rattle.compound_counts.proofs.watch.see_entry.Given as goal

abbrev pub invariant-loop-watcher : goal.invariant-loop-watcher
invariant-loop-watcher l = record {
  as_many : length l.rows ≡ length l.initial.rows;
  seen : AreSeenBy l.initial.rows l.rows l.place (take l.watcher-index l.watchers) (λ (c : ℕ). is_true_in_entry l.tallies.branches (get_or l.predicates c 0) l.entry);
}
