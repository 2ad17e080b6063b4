use Rattle.std.proofs.Common.{arith, refl}
use Rattle.lower_trees.proofs.Placed.{strings_next}
use Rattle.lower_trees.proofs.texts.strings_by_token.Goals as goal

pub loop-string-preserved : goal.loop-string-preserved
loop-string-preserved c = (
  omega arith,
  λ token.
      strings_next c.args.strings.now c.loop-string.string-index c.loop-string.number _ token c.string-item.result _ _ _ refl c.loop-string-test.true c.string-item.is
      (rw c.token.ensures at c.in_ok-add.ensures token) (c.loop-string.invariant.1 token),
)
