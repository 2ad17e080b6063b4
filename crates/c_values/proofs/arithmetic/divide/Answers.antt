use Rattle.c_values.proofs.Division.{quotient_of, is_zero-false}
use Rattle.c_values.proofs.arithmetic.divide.Goals as goal

pub returns-clause-value : goal.returns-clause-value
returns-clause-value c =
    let exact = quotient_of c.args.kind c.args.left c.args.right c.requires.left c.ranges.left c.ranges.right in
    let apart = is_zero-false c.args.right c.ranges.right c.if-right-eq0.false in
    rw apart (rw exact at c.fit.ensures.value)
