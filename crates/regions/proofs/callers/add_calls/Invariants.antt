use Rattle.std.proofs.Common.{◌≡◌}
use Rattle.regions.specs.Callers.{CallsAmong, Grew}
use Rattle.regions.proofs.callers.add_calls.Given as goal

-- the calls of the nodes before this one were added
abbrev pub invariant-loop-node : goal.invariant-loop-node
invariant-loop-node l = Grew l.initial.callers.items l.callers.items (λ g f. (f ≡ l.caller) × CallsAmong l.nodes l.node-index g)
