use Rattle.std.proofs.Common.{◌≡◌, ◌-◌, ◌++◌, ◌^◌, ◌<◌}
use Rattle.elimination_tallies.specs.Recount.{runs_of}
use Rattle.elimination_tallies.specs.Runs.{reports_after}
use Rattle.elimination_reference.proofs.collected.runs_of.Given as goal

abbrev pub invariant-loop-report : goal.invariant-loop-report
invariant-loop-report l = (runs_of l.collection.reports ≡ l.runs.items ++ runs_of (reports_after l.last l.collection.reports)) × (l.last < 2 ^ 32)

abbrev pub decreases-loop-report : goal.decreases-loop-report
decreases-loop-report l = 2 ^ 32 - l.last
