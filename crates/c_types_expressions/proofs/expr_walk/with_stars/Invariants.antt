use Rattle.std.proofs.Common.{◌≡◌}
use Rattle.c_types_expressions.specs.ExprWalk.{with_stars}
use Rattle.c_types_expressions.proofs.expr_walk.with_stars.Given as goal

abbrev pub invariant-loop-left : goal.invariant-loop-left
invariant-loop-left l = with_stars l.left l.ctype ≡ with_stars l.stars l.base

abbrev pub decreases-loop-left : goal.decreases-loop-left
decreases-loop-left l = l.left
