use Rattle.std.proofs.Common.{◌≡◌, ◌≤◌, ◌+◌, ◌*◌, length}
use Rattle.command_collect.specs.Collect.{reports_in}
use Rattle.command_collect.proofs.gather.count.Given as goal

-- the reports of the bundles that are left are not counted yet
abbrev pub invariant-loop-rest : goal.invariant-loop-rest
invariant-loop-rest l = record {
  all : l.count + length (reports_in l.rest) ≡ length (reports_in l.initial.rest);
  few : l.count + 18446744073709551616 * length l.rest ≤ 18446744073709551616 * length l.initial.rest;
}

abbrev pub decreases-loop-rest : goal.decreases-loop-rest
decreases-loop-rest l = length l.rest
