use Rattle.std.proofs.Common.{◌≡◌, length, take}
use Rattle.std.specs.List.{sum_by}
use Rattle.flow.specs.declared.program.Function.{Function}
use Rattle.flow.proofs.functions.totals.Given as goal

-- the sums over the functions before this one
abbrev pub invariant-loop-function : goal.invariant-loop-function
invariant-loop-function l =
    (l.locals ≡ sum_by (λ (f : Function). length f.locals) (take l.function-index l.functions))
    × (l.nodes ≡ sum_by (λ (f : Function). length f.nodes) (take l.function-index l.functions))
