use Rattle.std.proofs.Common.{◌≡◌, ◌-◌, ◌^◌, ◌<◌}
use Rattle.elimination_tallies.specs.Runs.{reports_after}
use Rattle.affinity.specs.Cards.{failing_true}
use Rattle.affinity.proofs.first.first_failing.Given as goal

abbrev pub invariant-loop-report : goal.invariant-loop-report
invariant-loop-report l =
    (failing_true l.collection.branches (reports_after l.run l.collection.reports) l.predicate ≡ failing_true l.collection.branches l.collection.reports l.predicate) × (l.run < 2 ^ 32)

abbrev pub decreases-loop-report : goal.decreases-loop-report
decreases-loop-report l = 2 ^ 32 - l.run
