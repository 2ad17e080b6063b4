use Rattle.std.proofs.Common.{◌≡◌, ◌++◌, length}
use Rattle.std.specs.Prelude.{map}
use Rattle.flow.specs.Spelling.{global_fields}
use Rattle.program_writer.specs.Written.{rows_text}
use Rattle.program_writer.proofs.write_cells.push_each_global.Given as goal

-- with what is left, all is appended
abbrev pub invariant-loop-rest : goal.invariant-loop-rest
invariant-loop-rest l = l.out.items ++ rows_text (map global_fields l.rest) ≡ l.initial.out.items ++ rows_text (map global_fields l.globals)

abbrev pub decreases-loop-rest : goal.decreases-loop-rest
decreases-loop-rest l = length l.rest
