use Rattle.std.proofs.Common.{◌+◌, ◌≤◌, length}
use Rattle.cbi_base.proofs.FormatLemmas.{Counted}
use Rattle.cbi_base.proofs.format.count_conversions.Given as goal

abbrev pub invariant-loop-after : goal.invariant-loop-after
invariant-loop-after l = record {
  counted : Counted l.format l.count l.rest;
  room : l.count + length l.rest ≤ length l.format;
}

abbrev pub decreases-loop-after : goal.decreases-loop-after
decreases-loop-after l = length l.rest
