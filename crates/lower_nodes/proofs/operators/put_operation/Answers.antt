use Rattle.std.proofs.Common.{refl, rules}
use Rattle.flow.specs.declared.node.Node.TheVariants as node
use Rattle.lower_relation.specs.Paths.{Stuck}
use Rattle.lower_nodes.proofs.Building.{◌and_then◌, row, surely_made}
use Rattle.lower_nodes.proofs.operators.put_operation.Goals as goal

pub returns-in_ok-i-in-MoveLeft-clause-made : goal.returns-in_ok-i-in-MoveLeft-clause-made
returns-in_ok-i-in-MoveLeft-clause-made c = rw c.in-MoveLeft.is (row (node.Move c.in-MoveLeft.size 0) _ c.in_ok-i-in-MoveLeft.ensures.number c.in_ok-i-in-MoveLeft.ensures.added (search rules))

pub returns-in_ok-i-in-MoveRight-clause-made : goal.returns-in_ok-i-in-MoveRight-clause-made
returns-in_ok-i-in-MoveRight-clause-made c =
    rw c.in-MoveRight.is (row (node.Swap 0) _ c.in_ok-i-in-MoveRight.ensures.number c.in_ok-i-in-MoveRight.ensures.added refl
    and_then row (node.Move c.in-MoveRight.size 0) _ c.in_ok-moved-in-MoveRight.ensures.number c.in_ok-moved-in-MoveRight.ensures.added (search rules))

pub returns-in_ok-i-in-Span-clause-made : goal.returns-in_ok-i-in-Span-clause-made
returns-in_ok-i-in-Span-clause-made c = rw c.in-Span.is (row (node.Span c.in-Span.size 0) _ c.in_ok-i-in-Span.ensures.number c.in_ok-i-in-Span.ensures.added refl)

pub returns-in_ok-i-in-Ordered-clause-made : goal.returns-in_ok-i-in-Ordered-clause-made
returns-in_ok-i-in-Ordered-clause-made c = rw c.in-Ordered.is (row (node.Order c.in-Ordered.order 0) _ c.in_ok-i-in-Ordered.ensures.number c.in_ok-i-in-Ordered.ensures.added refl)

pub returns-in_ok-i-in-Wrong-clause-made : goal.returns-in_ok-i-in-Wrong-clause-made
returns-in_ok-i-in-Wrong-clause-made c = rw c.in-Wrong.is (surely_made (λ G. Stuck G) _ _ _ _ c.in_ok-i-in-Wrong.ensures.made)
