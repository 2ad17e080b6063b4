use Rattle.std.proofs.Common.{◌≡◌, ◌+◌, ◌*◌, ◌^◌, take}
use Rattle.probes.specs.Hottest.{times_of}
use Rattle.probes.proofs.hottest.whole_count.Given as goal

-- what was carried so far
abbrev pub invariant-loop-other : goal.invariant-loop-other
invariant-loop-other l = l.total ≡ l.count + 2 ^ 64 * times_of (take l.other-index l.carried) l.site
