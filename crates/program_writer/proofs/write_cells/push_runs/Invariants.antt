use Rattle.std.proofs.Common.{◌≡◌, ◌≤◌, ◌+◌, ◌++◌, length}
use Rattle.std.specs.Prelude.{map}
use Rattle.flow.specs.Spelling.{cell_runs, run_word}
use Rattle.program_writer.specs.Written.{fields_behind}
use Rattle.program_writer.proofs.WriteLemmas.{with_run}
use Rattle.program_writer.proofs.write_cells.push_runs.Given as goal

-- with the run at hand and those of the cells that are left, all is appended
abbrev pub invariant-loop-rest : goal.invariant-loop-rest
invariant-loop-rest l =
    (l.out.items ++ fields_behind (map run_word (with_run l.count l.held (cell_runs l.rest))) ≡ l.initial.out.items ++ fields_behind (map run_word (cell_runs l.cells)))
    × (l.count + length l.rest ≤ length l.cells)

abbrev pub decreases-loop-rest : goal.decreases-loop-rest
decreases-loop-rest l = length l.rest
