use Rattle.lower_nodes.proofs.Taking.{through_effect, through_truth, through_value}
use Rattle.lower_nodes.proofs.purpose.put_taken_through.Goals as goal

pub returns-in_ok-i-in-Effect-clause-made : goal.returns-in_ok-i-in-Effect-clause-made
returns-in_ok-i-in-Effect-clause-made c = rw c.in-Effect.is (through_effect c.args.of _ _ _ _ _ _ c.in_ok-discarded-in-Effect.ensures.made c.in_ok-i-in-Effect.ensures.made)

pub returns-in_ok-i-in-Truth-clause-made : goal.returns-in_ok-i-in-Truth-clause-made
returns-in_ok-i-in-Truth-clause-made c =
    rw c.in-Truth.is (through_truth c.args.of _ _ _ _ _ _ _ c.in_ok-fork-in-Truth.ensures.number c.in_ok-fork-in-Truth.ensures.added c.in_ok-i-in-Truth.ensures.made)

pub returns-in_ok-i-in-Value-clause-made : goal.returns-in_ok-i-in-Value-clause-made
returns-in_ok-i-in-Value-clause-made c = rw c.in-Value.is (through_value c.args.of _ _ _ _ c.in_ok-i-in-Value.ensures.made)
