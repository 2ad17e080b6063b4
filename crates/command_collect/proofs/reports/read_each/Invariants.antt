use Rattle.std.proofs.Common.{◌≡◌, ◌≤◌, ◌++◌, ℕ, List, length}
use Rattle.command_base.specs.Names.{AreHeld, IsFirstMissing, IsOneOf}
use Rattle.command_collect.specs.Collect.{AreReadOf}
use Rattle.command_collect.proofs.reports.read_each.Given as goal

-- what is true of the names that are left is true of all
abbrev pub invariant-loop-rest : goal.invariant-loop-rest
invariant-loop-rest g l = record {
  texts : (more : List (List ℕ)) → AreReadOf (g.S.Store.holds l.initial.store) l.rest more → AreReadOf (g.S.Store.holds l.initial.store) l.initial.rest (l.texts ++ more);
  was_held : AreHeld (g.S.Store.holds l.initial.store) l.rest → AreHeld (g.S.Store.holds l.initial.store) l.initial.rest;
  left_held : AreHeld (g.S.Store.holds l.initial.store) l.initial.rest → AreHeld (g.S.Store.holds l.initial.store) l.rest;
  missing : (name : List ℕ) → IsFirstMissing (g.S.Store.holds l.initial.store) l.rest name → IsFirstMissing (g.S.Store.holds l.initial.store) l.initial.rest name;
  named : (name : List ℕ) → IsOneOf l.rest name → IsOneOf l.initial.rest name;
  held : g.S.Store.holds l.store ≡ g.S.Store.holds l.initial.store;
  writes : g.S.Store.write_faults l.store ≡ g.S.Store.write_faults l.initial.store;
  never_falls : g.S.Store.read_faults l.initial.store ≤ g.S.Store.read_faults l.store;
  sound : g.S.Store.is_sound l.initial.store → g.S.Store.is_sound l.store;
  sound_count : g.S.Store.is_sound l.initial.store → AreHeld (g.S.Store.holds l.initial.store) l.initial.rest → g.S.Store.read_faults l.store ≡ g.S.Store.read_faults l.initial.store;
}

abbrev pub decreases-loop-rest : goal.decreases-loop-rest
decreases-loop-rest g l = length l.rest
