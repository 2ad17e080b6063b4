use Rattle.std.proofs.Common.{length, IsTrue}
use Rattle.cbi_base.specs.Printing.{pieces_of, printed_format, take_values}
use Rattle.machine_rows.specs.Strings.{Continues}
use Rattle.machine_rows.proofs.printing.put_format.Given as goal

abbrev pub invariant-loop-piece : goal.invariant-loop-piece
invariant-loop-piece l = record {
  taken : IsTrue (take_values (pieces_of l.rest) l.left);
  so_far : Continues (printed_format (pieces_of l.rest) l.left l.objects) (printed_format (pieces_of l.format) l.values l.objects) l.fn.output l.output;
}

abbrev pub decreases-loop-piece : goal.decreases-loop-piece
decreases-loop-piece l = length l.rest
