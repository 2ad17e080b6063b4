use Rattle.std.proofs.Common.{◌≡◌, ◌+◌, ◌≤◌, length}
use Rattle.lower_operators.specs.Passing.{format_types}
use Rattle.lower_operators.proofs.printing.conversion_count.Given as goal

-- those of the rest are still to be counted
abbrev pub invariant-loop-letter : goal.invariant-loop-letter
invariant-loop-letter l = record {
  counted : l.count + length (format_types l.rest) ≡ length (format_types l.format);
  room : l.count + length l.rest ≤ length l.format;
}

abbrev pub decreases-loop-letter : goal.decreases-loop-letter
decreases-loop-letter l = length l.rest
