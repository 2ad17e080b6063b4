use Rattle.std.proofs.Common.{◌≡◌, ◌++◌, [], drop}
use Rattle.sites.specs.Constants.{new_constants}
use Rattle.sites.proofs.constants.constants_of.Given as goal

-- with the new ones of what is left it is all of them
abbrev pub invariant-loop-spot : goal.invariant-loop-spot
invariant-loop-spot l = l.values.keys ++ new_constants l.values.keys (drop l.spot-index l.spots) ≡ new_constants [] l.spots
