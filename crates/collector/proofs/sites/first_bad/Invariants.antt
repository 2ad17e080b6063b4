use Rattle.std.proofs.Common.{◌≡◌, length}
use Rattle.collector.specs.Sites.{first_bad}
use Rattle.collector.proofs.sites.first_bad.Given as goal

abbrev pub invariant-loop-rest : goal.invariant-loop-rest
invariant-loop-rest l = first_bad l.branches l.entries ≡ first_bad l.branches l.rest

abbrev pub decreases-loop-rest : goal.decreases-loop-rest
decreases-loop-rest l = length l.rest
