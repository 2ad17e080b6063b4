use Rattle.std.proofs.Common.{◌≡◌, ◌≤◌}
use Rattle.command_base.specs.Names.{AreHeld}
use Rattle.planned_runs.specs.Runs.{names_from}
use Rattle.planned_runs.proofs.Going.{HaveCome}
use Rattle.planned_runs.proofs.runs.run_planned.Given as goal

-- the runs so far ended, their reports are held, and what is read for them was held
abbrev pub invariant-loop-done : goal.invariant-loop-done
invariant-loop-done g l = record {
  come : HaveCome l.fn.program l.id (g.P.RunPlan.gives l.plan (g.S.Store.holds l.fn.store)) l.first l.count l.turns (λ b. (goal.Probe-dyn g (b.vtable, b.value)).seen b.value) l.fn.probes.items
      l.done l.collection l.sums l.labels l.probes.items;
  was_held : AreHeld (g.S.Store.holds l.fn.store) (names_from (g.P.RunPlan.names l.plan) l.first l.done);
  held : g.S.Store.holds l.store ≡ g.S.Store.holds l.fn.store;
  writes : g.S.Store.write_faults l.store ≡ g.S.Store.write_faults l.fn.store;
  never_falls : g.S.Store.read_faults l.fn.store ≤ g.S.Store.read_faults l.store;
  sound : g.S.Store.is_sound l.fn.store → g.S.Store.is_sound l.store;
  sound_count : g.S.Store.is_sound l.fn.store → g.S.Store.read_faults l.store ≡ g.S.Store.read_faults l.fn.store;
}
