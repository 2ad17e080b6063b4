use Rattle.std.proofs.Common.{◌≡◌, ℕ, ◌<◌, Some, slice_get}
use Rattle.flow.specs.declared.program.Function.{Function}
use Rattle.flow.specs.Program.{IsFunction}
use Rattle.flow.proofs.functions.functions_fit.Given as goal

-- the functions before this one fit
abbrev pub invariant-loop-number : goal.invariant-loop-number
invariant-loop-number l = (k : ℕ) (f : Function) → k < l.number → slice_get l.functions k ≡ Some f → IsFunction l.names k f
