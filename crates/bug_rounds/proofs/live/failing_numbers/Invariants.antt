use Rattle.std.proofs.Common.{◌≡◌, ◌-◌, ◌^◌, ◌<◌, ◌++◌}
use Rattle.elimination_tallies.specs.Runs.{reports_after}
use Rattle.bug_rounds.specs.Live.{failing_numbers}
use Rattle.bug_rounds.proofs.live.failing_numbers.Given as goal

-- with those that are still to come they are all
abbrev pub invariant-loop-report : goal.invariant-loop-report
invariant-loop-report l = (l.live.items ++ failing_numbers (reports_after l.run l.collection.reports) ≡ failing_numbers l.collection.reports) × (l.run < 2 ^ 32)

abbrev pub decreases-loop-report : goal.decreases-loop-report
decreases-loop-report l = 2 ^ 32 - l.run
