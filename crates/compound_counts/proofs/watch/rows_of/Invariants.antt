use Rattle.std.proofs.Common.{◌-◌, ◌^◌, ◌<◌}
use Rattle.elimination_tallies.specs.Recount.{runs_of}
use Rattle.compound_counts.specs.Rows.{AreRowsUpTo, room_for}
use Rattle.compound_counts.specs.Runs.{run_count}
use Rattle.compound_counts.proofs.watch.rows_of.Given as goal

abbrev pub invariant-loop-report : goal.invariant-loop-report
invariant-loop-report l =
    AreRowsUpTo l.tallies.branches l.watch.predicates (room_for (run_count l.failing (runs_of l.collection.reports))) l.failing l.collection.reports l.last l.place l.rows.items × (l.last < 2 ^ 32)

abbrev pub decreases-loop-report : goal.decreases-loop-report
decreases-loop-report l = 2 ^ 32 - l.last
