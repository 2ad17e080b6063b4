use Rattle.std.proofs.Common.{◌≡◌, ℕ, List, ◌++◌, length, take}
use Rattle.cbi_base.specs.declared.observation.Observation.{Observation}
use Rattle.probes.specs.Sites.{sites_seen}
use Rattle.probes.specs.Hottest.{AreCounted}
use Rattle.probes.proofs.hottest.count_listed.Given as goal

-- the observations so far are counted
abbrev pub invariant-loop-i : goal.invariant-loop-i
invariant-loop-i l = record {
  len : length l.counts ≡ length l.initial.counts;
  counted : (carried : List ℕ) (seen : List Observation) → AreCounted l.initial.counts carried (sites_seen seen) → AreCounted l.counts carried (sites_seen (seen ++ take l.i l.observations));
}
