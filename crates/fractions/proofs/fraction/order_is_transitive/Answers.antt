use Rattle.fractions.proofs.FractionOrder.{cross-trans}
use Rattle.fractions.proofs.fraction.order_is_transitive.Goals as goal

pub returns : goal.returns
returns c = cross-trans c.args.left.top c.args.left.bottom c.args.middle.top c.args.middle.bottom c.args.right.top c.args.right.bottom c.requires.middle_bounds.positive
