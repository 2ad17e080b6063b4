use Rattle.std.proofs.Common.{◌≡◌, length, slice_get}
use Rattle.lower_operators.specs.Passing.{format_types}
use Rattle.lower_operators.proofs.printing.type_printed.Given as goal

-- the type is found as far behind the rest as is left
abbrev pub invariant-loop-letter : goal.invariant-loop-letter
invariant-loop-letter l = slice_get (format_types l.rest) l.left ≡ slice_get (format_types l.format) l.place

abbrev pub decreases-loop-letter : goal.decreases-loop-letter
decreases-loop-letter l = length l.rest
