use Rattle.std.proofs.Common.{◌-◌, ◌^◌, ◌<◌}
use Rattle.suspicious_lines.proofs.TotalLemmas.{AreTotalsSoFar}
use Rattle.suspicious_lines.proofs.totals.totals_of.Given as goal

abbrev pub invariant-loop-report : goal.invariant-loop-report
invariant-loop-report l = AreTotalsSoFar l.collection.reports l.run l.failing l.successful × (l.run < 2 ^ 32)

abbrev pub decreases-loop-report : goal.decreases-loop-report
decreases-loop-report l = 2 ^ 32 - l.run
