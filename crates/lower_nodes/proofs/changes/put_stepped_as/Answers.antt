use Rattle.lower_nodes.proofs.changes.put_stepped_as.Goals as goal

pub returns-then-taken-clause-made : goal.returns-then-taken-clause-made
returns-then-taken-clause-made c = rw c.if-taken.true c.in_ok-i.ensures.made

pub returns-clause-made : goal.returns-clause-made
returns-clause-made c = rw c.if-taken.false c.in_ok-i-2.ensures.made
