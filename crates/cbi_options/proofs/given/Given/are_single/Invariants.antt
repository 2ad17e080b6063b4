use Rattle.std.proofs.Common.{◌≡◌, length}
use Rattle.cbi_options.specs.Options.{are_single}
use Rattle.cbi_options.proofs.given.Given.are_single.Given as goal

abbrev pub invariant-loop-rest : goal.invariant-loop-rest
invariant-loop-rest l = are_single l.self.options ≡ are_single l.rest

abbrev pub decreases-loop-rest : goal.decreases-loop-rest
decreases-loop-rest l = length l.rest
