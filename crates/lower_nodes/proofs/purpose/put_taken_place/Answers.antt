use Rattle.lower_nodes.proofs.Taking.{place_effect, place_truth, place_value}
use Rattle.lower_nodes.proofs.purpose.put_taken_place.Goals as goal

pub returns-in_ok-i-in-Truth-clause-made : goal.returns-in_ok-i-in-Truth-clause-made
returns-in_ok-i-in-Truth-clause-made c =
    rw c.in-Truth.is (place_truth c.args.of _ _ _ _ _ _ _ c.in_ok-fork-in-Truth.ensures.number c.in_ok-fork-in-Truth.ensures.added c.in_ok-i-in-Truth.ensures.made)

pub returns-in_ok-i-in-Value-clause-made : goal.returns-in_ok-i-in-Value-clause-made
returns-in_ok-i-in-Value-clause-made c = rw c.in-Value.is (place_value c.args.of _ _ _ _ c.in_ok-i-in-Value.ensures.made)

pub returns-in_ok-i-in-Effect-clause-made : goal.returns-in_ok-i-in-Effect-clause-made
returns-in_ok-i-in-Effect-clause-made c = rw c.in-Effect.is (place_effect c.args.of _ _ _ _ c.in_ok-i-in-Effect.ensures.made)
