use Rattle.std.proofs.Common.{◌≡◌, length, take}
use Rattle.std.specs.List.{sum_by}
use Rattle.flow.specs.declared.program.Function.{Function}
use Rattle.sampling.proofs.plain.node_count.Given as goal

-- the sum over the functions before this one
abbrev pub invariant-loop-function : goal.invariant-loop-function
invariant-loop-function l = l.nodes ≡ sum_by (λ (f : Function). length f.nodes) (take l.function-index l.functions)
