use Rattle.std.proofs.Common.{◌≡◌, ◌++◌, drop}
use Rattle.sites.specs.Ground.{body_of}
use Rattle.sites.specs.SitesAt.{sites_in}
use Rattle.sites.proofs.table.add_sites_in.Given as goal

-- with those of the constructs that are left it is all of them
abbrev pub invariant-loop-spot : goal.invariant-loop-spot
invariant-loop-spot l = l.sites ++ sites_in (body_of l.ground) (drop l.spot-index l.spots) ≡ l.fn.sites ++ sites_in (body_of l.ground) l.spots
