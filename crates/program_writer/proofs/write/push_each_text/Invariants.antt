use Rattle.std.proofs.Common.{◌≡◌, ◌++◌, length}
use Rattle.std.specs.Prelude.{map}
use Rattle.flow.specs.Spelling.{text_fields}
use Rattle.program_writer.specs.Written.{rows_text}
use Rattle.program_writer.proofs.write.push_each_text.Given as goal

-- with what is left, all is appended
abbrev pub invariant-loop-rest : goal.invariant-loop-rest
invariant-loop-rest l = l.out.items ++ rows_text (map text_fields l.rest) ≡ l.initial.out.items ++ rows_text (map text_fields l.texts)

abbrev pub decreases-loop-rest : goal.decreases-loop-rest
decreases-loop-rest l = length l.rest
