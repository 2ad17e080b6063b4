use Rattle.std.proofs.Common.{◌≡◌, ◌++◌, take}
use Rattle.probe_base.proofs.probe.Probe.see_several.Given as goal

-- the observations so far were told
abbrev pub invariant-loop-observation : goal.invariant-loop-observation
invariant-loop-observation g l = g.Self.Probe.seen l.self ≡ g.Self.Probe.seen l.fn.self ++ take l.observation-index l.observations
