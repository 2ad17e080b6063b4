use Rattle.lower_nodes.proofs.Building.{stuck_made}
use Rattle.lower_nodes.proofs.values.put_stuck.Goals as goal

pub returns-clause-made : goal.returns-clause-made
returns-clause-made c =
    stuck_made _ _ _ _ _ _ c.in_ok-exit.ensures.number c.in_ok-exit.ensures.added c.in_ok-push.ensures.number c.in_ok-push.ensures.added
