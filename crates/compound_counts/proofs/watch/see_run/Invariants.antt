use Rattle.std.proofs.Common.{◌≡◌, length, take}
use Rattle.compound_counts.proofs.Seeing.{AreSeenIn}
use Rattle.compound_counts.proofs.watch.see_run.Given as goal

abbrev pub invariant-loop-entry : goal.invariant-loop-entry
invariant-loop-entry l = record {
  as_many : length l.rows ≡ length l.initial.rows;
  seen : AreSeenIn l.tallies.branches l.watch.predicates l.initial.rows l.rows l.place (take l.entry-index l.entries);
}
