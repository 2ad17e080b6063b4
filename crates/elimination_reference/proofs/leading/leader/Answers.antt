use Rattle.std.proofs.Common.{arith}
use Rattle.elimination_reference.proofs.PlainLemmas.{best-leads}
use Rattle.elimination_reference.proofs.leading.leader.Goals as goal

pub returns : goal.returns
returns c =
    best-leads c.loop-predicate.best c.args.branches.now c.args.runs.now c.loop-predicate.predicate c.failing_runs-failing.result (omega (arith, c.predicates_in-predicate-end.ensures.value)) c.failing_runs-failing.ensures.value c.loop-predicate.invariant.0
