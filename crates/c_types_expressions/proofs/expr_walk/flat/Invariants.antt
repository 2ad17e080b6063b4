use Rattle.std.proofs.Common.{◌≡◌, ◌++◌, drop}
use Rattle.c_types_expressions.specs.ExprWalk.{concatenated_strings}
use Rattle.c_types_expressions.proofs.expr_walk.flat.Given as goal

abbrev pub invariant-loop-part : goal.invariant-loop-part
invariant-loop-part l = l.bytes.items ++ concatenated_strings (drop l.part-index l.parts) ≡ concatenated_strings l.parts
