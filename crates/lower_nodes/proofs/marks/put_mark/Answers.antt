use Rattle.lower_nodes.proofs.Visiting.{mark_made}
use Rattle.lower_nodes.proofs.marks.put_mark.Goals as goal

pub returns-in_ok-i-in-Some-clause-made : goal.returns-in_ok-i-in-Some-clause-made
returns-in_ok-i-in-Some-clause-made c = rw c.in-Some.is (mark_made c.in-Some.site _ _ _ _ c.in_ok-i-in-Some.ensures.number c.in_ok-i-in-Some.ensures.added)
