use Rattle.std.proofs.Common.{◌≡◌, ◌++◌, ◌≤◌, ◌-◌, length, take}
use Rattle.probes.proofs.hottest.HottestProbe.see_several.Given as goal

-- the observations so far are added
abbrev pub invariant-loop-added : goal.invariant-loop-added
invariant-loop-added l = record {
  value : l.self ≡ l.fn.self ++ take l.added l.observations;
  within : l.added ≤ length l.observations;
}

-- how many are left
abbrev pub decreases-loop-added : goal.decreases-loop-added
decreases-loop-added l = length l.observations - l.added
