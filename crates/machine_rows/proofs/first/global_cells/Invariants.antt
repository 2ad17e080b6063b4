use Rattle.std.proofs.Common.{◌≡◌, ◌++◌, map, drop}
use Rattle.flow.specs.Statics.{cell_value}
use Rattle.machine_rows.proofs.first.global_cells.Given as goal

abbrev pub invariant-loop-cell : goal.invariant-loop-cell
invariant-loop-cell l = l.words.items ++ map (cell_value l.globals) (drop l.cell-index l.cells) ≡ map (cell_value l.globals) l.cells
