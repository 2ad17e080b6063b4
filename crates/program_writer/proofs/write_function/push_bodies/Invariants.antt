use Rattle.std.proofs.Common.{◌≡◌, ◌++◌, length}
use Rattle.std.specs.List.{flat_map}
use Rattle.flow.specs.Spelling.{body_rows}
use Rattle.program_writer.specs.Written.{rows_text}
use Rattle.program_writer.proofs.write_function.push_bodies.Given as goal

-- with what is left, all is appended
abbrev pub invariant-loop-rest : goal.invariant-loop-rest
invariant-loop-rest l = l.out.items ++ rows_text (flat_map body_rows l.rest) ≡ l.initial.out.items ++ rows_text (flat_map body_rows l.functions)

abbrev pub decreases-loop-rest : goal.decreases-loop-rest
decreases-loop-rest l = length l.rest
