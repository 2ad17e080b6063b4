use Rattle.std.proofs.Common.{◌≡◌, ◌+◌, ◌^◌, ◌<◌, ◌≤◌}
use Rattle.fractions.specs.Logarithm.{log_of, logarithm_places}
use Rattle.fractions.proofs.logarithm.log_fixed.Given as goal

abbrev pub invariant-loop-place : goal.invariant-loop-place
invariant-loop-place l = record {
  one_or_more : 2 ^ 62 ≤ l.mantissa;
  below_two : l.mantissa < 2 ^ 63;
  rest : l.log + logarithm_places l.place l.mantissa ≡ log_of l.n;
}
