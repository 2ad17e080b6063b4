use Rattle.std.proofs.Common.{◌≤◌, arith}
use Rattle.std.proofs.lemmas.List.Elements.{All-more}
use Rattle.affinity.specs.declared.neighbour.Neighbour.{Neighbour}
use Rattle.affinity.proofs.listing.place_of.Goals as goal

pub loop-place-preserved : goal.loop-place-preserved
loop-place-preserved c =
    All-more (λ (n : Neighbour). c.args.fall ≤ n.fall) c.args.rows.now c.loop-place.place (record { predicate = 0; fall = 0 }) c.loop-place-test.true c.loop-place.invariant (omega (arith, c.if-row-fall.false))
