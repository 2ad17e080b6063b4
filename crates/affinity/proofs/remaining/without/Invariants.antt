use Rattle.std.proofs.Common.{◌-◌, ◌^◌, ◌<◌}
use Rattle.elimination_tallies.specs.Recount.{runs_of}
use Rattle.elimination_tallies.specs.Runs.{reports_after}
use Rattle.affinity.proofs.RemainingLemmas.{LeftSoFar}
use Rattle.affinity.proofs.remaining.without.Given as goal

abbrev pub invariant-loop-report : goal.invariant-loop-report
invariant-loop-report l =
    LeftSoFar l.collection.branches l.predicate (runs_of (reports_after l.run l.collection.reports)) (runs_of l.collection.reports) l.numbers l.failing l.all × (l.run < 2 ^ 32)

abbrev pub decreases-loop-report : goal.decreases-loop-report
decreases-loop-report l = 2 ^ 32 - l.run
