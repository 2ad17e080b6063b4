use Rattle.std.proofs.Common.{◌<◌}
use Rattle.regions.specs.Callers.{Grew}
use Rattle.regions.specs.Weighty.{CallsTo}
use Rattle.regions.proofs.callers.callers_of.Given as goal

-- the calls by the functions before this one were added
abbrev pub invariant-loop-number : goal.invariant-loop-number
invariant-loop-number l = Grew l.initial.callers.items l.callers.items (λ g f. (f < l.number) × CallsTo l.functions f g)
