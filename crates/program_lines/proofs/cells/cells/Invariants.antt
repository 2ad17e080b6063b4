use Rattle.std.proofs.Common.{◌≡◌, None, length}
use Rattle.program_lines.specs.CellRuns.{cells_of}
use Rattle.program_lines.proofs.CellLoops.{with_front}
use Rattle.program_lines.proofs.cells.cells.Given as goal

-- the runs so far have these cells
abbrev pub invariant-loop-field : goal.invariant-loop-field
invariant-loop-field l = cells_of l.room None l.fn.fields ≡ with_front l.cells (cells_of l.left l.last l.fields)

abbrev pub decreases-loop-field : goal.decreases-loop-field
decreases-loop-field l = length l.fields
