use Rattle.std.proofs.Common.{refl}
use Rattle.flow.specs.declared.node.Node.TheVariants as node
use Rattle.lower_relation.specs.Paths.{Stuck}
use Rattle.lower_nodes.proofs.Building.{row, surely_made}
use Rattle.lower_statements.proofs.initialisers.put_zero.Goals as goal

pub returns-in_default-clause-made : goal.returns-in_default-clause-made
returns-in_default-clause-made c = rw c.in_default.is (surely_made (λ G. Stuck G) _ _ _ _ c.in_ok-stuck.ensures.made)

pub returns-clause-made : goal.returns-clause-made
returns-clause-made c = rw c.in-Some.is (row (node.Zero c.args.index c.in-Some.want 0) _ c.in_ok-i.ensures.number c.in_ok-i.ensures.added refl)
