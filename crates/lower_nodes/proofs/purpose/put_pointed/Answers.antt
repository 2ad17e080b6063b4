use Rattle.lower_nodes.proofs.Taking.{pointed_made}
use Rattle.lower_nodes.proofs.purpose.put_pointed.Goals as goal

pub returns-clause-made : goal.returns-clause-made
returns-clause-made c =
    pointed_made _ _ _ _ _ _ _ _ c.in_ok-trap.ensures.number c.in_ok-trap.ensures.added c.in_ok-fork.ensures.number c.in_ok-fork.ensures.added c.in_ok-i.ensures.number
    c.in_ok-i.ensures.added
