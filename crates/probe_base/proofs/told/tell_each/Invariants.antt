use Rattle.probe_base.proofs.Growing.{GrewBelow}
use Rattle.probe_base.proofs.told.tell_each.Given as goal

-- the watchers so far were told
abbrev pub invariant-loop-probe : goal.invariant-loop-probe
invariant-loop-probe g l = GrewBelow (λ b. (goal.Probe-dyn g (b.vtable, b.value)).seen b.value) l.observations l.probe-index l.fn.probes l.probes
