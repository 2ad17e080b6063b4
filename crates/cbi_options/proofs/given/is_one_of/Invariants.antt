use Rattle.std.specs.Prelude.{map}
use Rattle.std.proofs.Common.{◌≡◌, length}
use Rattle.cbi_options.specs.Options.{is_one_of}
use Rattle.cbi_options.proofs.given.is_one_of.Given as goal

abbrev pub invariant-loop-rest : goal.invariant-loop-rest
invariant-loop-rest l = is_one_of (map (λ n. n.now) l.names) l.name ≡ is_one_of (map (λ n. n.now) l.rest) l.name

abbrev pub decreases-loop-rest : goal.decreases-loop-rest
decreases-loop-rest l = length l.rest
