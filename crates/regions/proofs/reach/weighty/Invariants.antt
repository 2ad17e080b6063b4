use Rattle.std.proofs.Common.{◌-◌, length}
use Rattle.regions.proofs.ReachLemmas.{Spread}
use Rattle.regions.proofs.reach.weighty.Given as goal

abbrev pub invariant-loop-done : goal.invariant-loop-done
invariant-loop-done l = Spread l.program l.found.flags.items l.found.order.items l.done

-- no function is found twice
abbrev pub decreases-loop-done : goal.decreases-loop-done
decreases-loop-done l = length l.program.functions - l.done
