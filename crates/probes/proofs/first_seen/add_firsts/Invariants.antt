use Rattle.std.proofs.Common.{◌≡◌, ◌++◌, List, take}
use Rattle.cbi_base.specs.declared.observation.Observation.{Observation}
use Rattle.probes.specs.FirstSeen.{first_sites}
use Rattle.probes.proofs.first_seen.add_firsts.Given as goal

-- the sites so far
abbrev pub invariant-loop-observation : goal.invariant-loop-observation
invariant-loop-observation l = (seen : List Observation) → l.initial.sites.items ≡ first_sites seen → l.sites.items ≡ first_sites (seen ++ take l.observation-index l.observations)
