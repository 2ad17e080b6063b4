use Rattle.flow.proofs.Distinct.{KnowsNames}
use Rattle.flow.proofs.functions.are_distinct.Given as goal

-- the names of the functions before this one are known, and no two of these have one name
abbrev pub invariant-loop-function : goal.invariant-loop-function
invariant-loop-function l = KnowsNames l.known l.functions l.function-index
