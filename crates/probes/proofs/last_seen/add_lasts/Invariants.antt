use Rattle.std.proofs.Common.{◌≡◌, ◌++◌, List, take}
use Rattle.cbi_base.specs.declared.observation.Observation.{Observation}
use Rattle.probes.specs.Sites.{most_sites, sites_seen}
use Rattle.probes.specs.LastSeen.{last_of, last_sites}
use Rattle.probes.proofs.last_seen.add_lasts.Given as goal

-- the sites so far
abbrev pub invariant-loop-observation : goal.invariant-loop-observation
invariant-loop-observation l = (seen : List Observation) → l.initial.sites.items ≡ last_sites seen → l.sites.items ≡ last_of most_sites (sites_seen seen ++ sites_seen (take l.observation-index l.latest))
