use Rattle.std.proofs.Common.{◌≡◌, ◌++◌, length}
use Rattle.std.specs.Prelude.{map}
use Rattle.flow.specs.Spelling.{head_fields, head_of}
use Rattle.program_writer.specs.Written.{rows_text}
use Rattle.program_writer.proofs.write_function.push_each_head.Given as goal

-- with what is left, all is appended
abbrev pub invariant-loop-rest : goal.invariant-loop-rest
invariant-loop-rest l = l.out.items ++ rows_text (map head_fields (map head_of l.rest)) ≡ l.initial.out.items ++ rows_text (map head_fields (map head_of l.functions))

abbrev pub decreases-loop-rest : goal.decreases-loop-rest
decreases-loop-rest l = length l.rest
