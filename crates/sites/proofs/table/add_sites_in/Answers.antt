use Rattle.c_types.specs.Answers.{known_of}
use Rattle.sites.specs.Noted.{IsEnoughFor}
use Rattle.sites.proofs.Standing.{each_at}
use Rattle.sites.proofs.table.add_sites_in.Goals as goal

pub add_sites_at-requires : goal.add_sites_at-requires
add_sites_at-requires c =
    let ground = c.args.ground.now in
    each_at (IsEnoughFor ground.schemes (known_of ground.checked.now) ground.noted.now) c.args.spots.now c.loop-spot.spot-index c.spot-item.result
    c.loop-spot-test.true c.spot-item.is c.requires
