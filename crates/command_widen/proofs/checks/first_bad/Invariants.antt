use Rattle.std.proofs.Common.{◌≡◌, length}
use Rattle.collector.specs.Sites.{branches_of, first_bad}
use Rattle.command_widen.proofs.checks.first_bad.Given as goal

abbrev pub invariant-loop-rest : goal.invariant-loop-rest
invariant-loop-rest l = first_bad (branches_of l.sites) l.entries ≡ first_bad (branches_of l.sites) l.rest

abbrev pub decreases-loop-rest : goal.decreases-loop-rest
decreases-loop-rest l = length l.rest
