use Rattle.std.proofs.Common.{refl}
use Rattle.flow.specs.declared.node.Node.TheVariants as node
use Rattle.lower_relation.specs.Paths.{Does}
use Rattle.lower_nodes.proofs.Building.{one_made}
use Rattle.lower_nodes.proofs.Serving.{valued_made}
use Rattle.lower_nodes.proofs.leaves.put_null.Goals as goal

pub returns-clause-made : goal.returns-clause-made
returns-clause-made c =
    valued_made (λ G. Does G (node.Null 0)) c.args.purpose _ _ _ _ _ c.in_ok-next.ensures.made
    (one_made (node.Null 0) _ _ _ _ _ refl c.in_ok-i.ensures.number c.in_ok-i.ensures.added)
