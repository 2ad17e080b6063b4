use Rattle.std.proofs.Common.{◌≡◌, take}
use Rattle.std.specs.List.{flat_map}
use Rattle.probe_base.proofs.told.push_lines.Given as goal

-- the lines so far
abbrev pub invariant-loop-probe : goal.invariant-loop-probe
invariant-loop-probe g l = l.lines.items ≡ flat_map (λ b. (goal.Probe-dyn g (b.vtable, b.value)).line_text b.value) (take l.probe-index l.probes.items)
