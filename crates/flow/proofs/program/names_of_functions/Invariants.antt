use Rattle.std.proofs.Common.{◌≡◌, map, take}
use Rattle.flow.proofs.program.names_of_functions.Given as goal

-- the names of the functions before this one
abbrev pub invariant-loop-function : goal.invariant-loop-function
invariant-loop-function l = l.names.items ≡ map (λ f. f.name) (take l.function-index l.functions)
