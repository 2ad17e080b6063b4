use Rattle.std.proofs.Common.{◌-◌, ◌^◌, ◌<◌}
use Rattle.compound_counts.specs.Runs.{IsCounted}
use Rattle.compound_counts.proofs.labels.run_count.Given as goal

abbrev pub invariant-loop-report : goal.invariant-loop-report
invariant-loop-report l = IsCounted l.failing l.collection.reports l.last l.count × (l.last < 2 ^ 32)

abbrev pub decreases-loop-report : goal.decreases-loop-report
decreases-loop-report l = 2 ^ 32 - l.last
