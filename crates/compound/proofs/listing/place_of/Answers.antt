use Rattle.std.proofs.Common.{arith}
use Rattle.compound.proofs.listing.place_of.Goals as goal

pub loop-place-init : goal.loop-place-init
loop-place-init c = record { within = omega arith; behind = λ k d from inside. absurd (omega (arith, from, inside)) }
