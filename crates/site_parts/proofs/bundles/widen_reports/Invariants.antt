use Rattle.std.proofs.Common.{◌≡◌, ◌++◌, ◌-◌, map, take, drop, length}
use Rattle.site_parts.specs.Widened.{widened_report}
use Rattle.site_parts.proofs.bundles.widen_reports.Given as goal

-- the reports before this one are widened
abbrev pub invariant-loop-place : goal.invariant-loop-place
invariant-loop-place l = l.reports ≡ map (widened_report l.whole l.part) (take l.place l.initial.reports) ++ drop l.place l.initial.reports

abbrev pub decreases-loop-place : goal.decreases-loop-place
decreases-loop-place l = length l.reports - l.place
