use Rattle.std.proofs.Common.{◌≡◌, ◌+◌, ◌≤◌, length}
use Rattle.elimination_tallies.specs.Recount.{failing_runs}
use Rattle.elimination_reference.proofs.counting.failing_runs.Given as goal

abbrev pub invariant-loop-rest : goal.invariant-loop-rest
invariant-loop-rest l = (failing_runs l.runs ≡ l.count + failing_runs l.rest) × (l.count + length l.rest ≤ length l.runs)

abbrev pub decreases-loop-rest : goal.decreases-loop-rest
decreases-loop-rest l = length l.rest
