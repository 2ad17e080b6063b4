use Rattle.std.proofs.Common.{◌≡◌, ◌++◌, length}
use Rattle.std.specs.Prelude.{decimal, map}
use Rattle.program_writer.specs.Written.{fields_behind}
use Rattle.program_writer.proofs.write_function.push_sizes.Given as goal

-- with what is left, all is appended
abbrev pub invariant-loop-rest : goal.invariant-loop-rest
invariant-loop-rest l = l.out.items ++ fields_behind (map decimal l.rest) ≡ l.initial.out.items ++ fields_behind (map decimal l.sizes)

abbrev pub decreases-loop-rest : goal.decreases-loop-rest
decreases-loop-rest l = length l.rest
