use Rattle.std.proofs.Common.{◌≡◌, ◌++◌, replicate}
use Rattle.program_lines.proofs.cells.push_run.Given as goal

-- so many cells of the run were added
abbrev pub invariant-loop-place : goal.invariant-loop-place
invariant-loop-place l = l.cells ≡ l.fn.cells ++ replicate l._place l.run.cell
