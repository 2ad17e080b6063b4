use Rattle.std.proofs.Common.{refl}
use Rattle.flow.specs.declared.node.Node.TheVariants as node
use Rattle.lower_relation.specs.Paths.{Does, Stuck}
use Rattle.lower_nodes.proofs.Building.{one_made, surely_made}
use Rattle.lower_nodes.proofs.Serving.{valued_made}
use Rattle.lower_nodes.proofs.leaves.put_text.Goals as goal

pub returns-in_ok-i-in-None-clause-made : goal.returns-in_ok-i-in-None-clause-made
returns-in_ok-i-in-None-clause-made c = rw (c.in-None.is) (valued_made (λ G. Stuck G) c.args.purpose _ _ _ _ _ c.in_ok-next.ensures.made (surely_made (λ G. Stuck G) _ _ _ _ c.in_ok-i-in-None.ensures.made))

pub returns-in_ok-i-in-Some-clause-made : goal.returns-in_ok-i-in-Some-clause-made
returns-in_ok-i-in-Some-clause-made c =
    rw (c.in-Some.is) (valued_made (λ G. Does G (node.Text c.in-Some.number 0)) c.args.purpose _ _ _ _ _ c.in_ok-next.ensures.made
    (one_made (node.Text c.in-Some.number 0) _ _ _ _ _ refl c.in_ok-i-in-Some.ensures.number c.in_ok-i-in-Some.ensures.added))
