use Rattle.std.proofs.Common.{◌≡◌, length}
use Rattle.cbi_base.specs.Printing.{pieces_of, take_values}
use Rattle.machine_rows.proofs.printing.take_values.Given as goal

abbrev pub invariant-loop-piece : goal.invariant-loop-piece
invariant-loop-piece l = take_values (pieces_of l.format) l.values ≡ take_values (pieces_of l.rest) l.left

abbrev pub decreases-loop-piece : goal.decreases-loop-piece
decreases-loop-piece l = length l.rest
