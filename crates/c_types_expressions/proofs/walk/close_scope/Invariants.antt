use Rattle.std.proofs.Common.{◌≡◌, length}
use Rattle.c_types_expressions.specs.Names.{names_after_scope}
use Rattle.c_types_expressions.specs.Walked.{ended_scopes}
use Rattle.c_types_expressions.proofs.walk.close_scope.Given as goal

-- what is left of the scope ends as the whole of it does, and nothing else changes
abbrev pub invariant-loop-meaning : goal.invariant-loop-meaning
invariant-loop-meaning l =
    (names_after_scope l.walk.names ≡ names_after_scope l.fn.walk.names) × (ended_scopes l.last l.walk.names l.walk.ends ≡ ended_scopes l.last l.fn.walk.names l.fn.walk.ends)
    × (record l.walk { names = l.fn.walk.names; ends = l.fn.walk.ends } ≡ l.fn.walk)

abbrev pub decreases-loop-meaning : goal.decreases-loop-meaning
decreases-loop-meaning l = length l.walk.names
