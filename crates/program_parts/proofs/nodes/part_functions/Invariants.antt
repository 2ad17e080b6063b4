use Rattle.std.proofs.Common.{◌≡◌, map, take}
use Rattle.program_parts.specs.Program.{part_function}
use Rattle.program_parts.proofs.nodes.part_functions.Given as goal

-- the functions before this one are as the part has them
abbrev pub invariant-loop-function : goal.invariant-loop-function
invariant-loop-function l = l.kept.items ≡ map (part_function l.part) (take l.function-index l.functions)
