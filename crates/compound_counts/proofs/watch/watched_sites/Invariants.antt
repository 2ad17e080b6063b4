use Rattle.compound_counts.specs.Rows.{AreWatched}
use Rattle.compound_counts.proofs.watch.watched_sites.Given as goal

abbrev pub invariant-loop-place : goal.invariant-loop-place
invariant-loop-place l = AreWatched l.tallies.branches l.predicates l.place l.watched.items
