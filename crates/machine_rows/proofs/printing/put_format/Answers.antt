use Rattle.std.proofs.Common.{None, subst, sym}
use Rattle.cbi_base.specs.Printing.{printed_format}
use Rattle.machine_rows.specs.Printed.{IsPrinted}
use Rattle.machine_rows.proofs.PrintedLemmas.{nothing_on}
use Rattle.machine_rows.proofs.printing.put_format.Goals as goal

pub returns : goal.returns
returns c =
    c.loop-piece.invariant.so_far None c.loop-piece.output
    (subst (λ ps. IsPrinted (printed_format ps c.loop-piece.left.now c.args.objects.now) c.loop-piece.output None c.loop-piece.output) (sym c.in_default.ensures.pieces)
    (nothing_on c.loop-piece.output c.len.ensures.most))
