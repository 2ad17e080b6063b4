use Rattle.std.proofs.Common.{drop}
use Rattle.cbi_base.specs.Printing.{string_on}
use Rattle.machine_rows.specs.Strings.{Continues}
use Rattle.machine_rows.proofs.printing.put_cells.Given as goal

abbrev pub invariant-loop-cell : goal.invariant-loop-cell
invariant-loop-cell l = Continues (string_on (drop l.cell-index l.cells)) (string_on l.cells) l.fn.output l.output
