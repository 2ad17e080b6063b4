use Rattle.std.proofs.Common.{◌≡◌, replicate, []}
use Rattle.regions.proofs.callers.no_callers.Given as goal

-- one empty list for each round
abbrev pub invariant-loop : goal.invariant-loop
invariant-loop l = l.callers.items ≡ replicate l.counter []
