use Rattle.std.proofs.Common.{◌≡◌, length}
use Rattle.c_types_rules.specs.TypeTree.{same_types}
use Rattle.c_types_rules.proofs.ctype.same_types.Given as goal

abbrev pub invariant-loop-left : goal.invariant-loop-left
invariant-loop-left l = same_types l.left l.right ≡ same_types l.fn.left l.fn.right

abbrev pub decreases-loop-left : goal.decreases-loop-left
decreases-loop-left l = length l.left
