use Rattle.std.proofs.Common.{◌≡◌, None, replicate}
use Rattle.c_types_expressions.proofs.table.blank.Given as goal

abbrev pub invariant-loop : goal.invariant-loop
invariant-loop g l = l.items.items ≡ replicate l.counter None
