use Rattle.lower_relation.specs.Operators.{Variable}
use Rattle.lower_nodes.proofs.Serving.{placed_made}
use Rattle.lower_nodes.proofs.leaves.put_name.Goals as goal

pub returns-clause-made : goal.returns-clause-made
returns-clause-made c = placed_made c.args.of (λ G. Variable G c.args.slot) c.args.purpose _ _ _ _ _ c.in_ok-next.ensures.made c.in_ok-i.ensures.made
