use Rattle.std.proofs.Common.{◌-◌, ◌^◌, ◌<◌}
use Rattle.elimination_tallies.specs.Recount.{runs_of}
use Rattle.elimination_tallies.specs.Runs.{reports_after}
use Rattle.elimination_tallies.proofs.TotalLemmas.{AreSummed}
use Rattle.elimination_tallies.proofs.numbers.Numbers.of.Given as goal

abbrev pub invariant-loop-report : goal.invariant-loop-report
invariant-loop-report l = AreSummed l.collection.branches (runs_of (reports_after l.run l.collection.reports)) (runs_of l.collection.reports) l.numbers × (l.run < 2 ^ 32)

abbrev pub decreases-loop-report : goal.decreases-loop-report
decreases-loop-report l = 2 ^ 32 - l.run
