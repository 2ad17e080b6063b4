use Rattle.std.proofs.Common.{length, ap, arith}
use Rattle.compound_bits.proofs.Rows.{length-facts}
use Rattle.compound_bits.proofs.row.count_both.Goals as goal

pub count_words-requires-clause-truth : goal.count_words-requires-clause-truth
count_words-requires-clause-truth c =
    let left = c.left.inside in
    let right = c.right.inside in
    omega (arith, ap length c.left.view_is, ap length c.right.view_is, length-facts left.truth.items left.known.items c.left.invariant, length-facts right.truth.items right.known.items c.right.invariant, ap length c.as_slice.ensures.value, ap length c.as_slice-3.ensures.value)

pub count_words-requires-clause-right : goal.count_words-requires-clause-right
count_words-requires-clause-right c =
    let left = c.left.inside in
    let right = c.right.inside in
    omega (arith, ap length c.left.view_is, ap length c.right.view_is, length-facts left.truth.items left.known.items c.left.invariant, length-facts right.truth.items right.known.items c.right.invariant, ap length c.as_slice.ensures.value, ap length c.as_slice-4.ensures.value, c.right.invariant)

pub count_words-requires-clause-few : goal.count_words-requires-clause-few
count_words-requires-clause-few c =
    omega (arith, ap length c.left.view_is, length-facts c.left.inside.truth.items c.left.inside.known.items c.left.invariant, ap length c.as_slice.ensures.value)
