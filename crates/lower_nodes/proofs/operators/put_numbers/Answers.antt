use Rattle.lower_nodes.proofs.Rows.{numbers_made}
use Rattle.lower_nodes.proofs.operators.put_numbers.Goals as goal

pub returns-clause-made : goal.returns-clause-made
returns-clause-made c =
    numbers_made _ _ _ _ _ _ _ _ _ _ _ _ _ _ _ c.left_kind.ensures c.right_kind.ensures c.between-2.ensures c.between.ensures
    c.in_ok-math.ensures.number c.in_ok-math.ensures.added c.in_ok-converted.ensures.made c.in_ok-i.ensures.made
