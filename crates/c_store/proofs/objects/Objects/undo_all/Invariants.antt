use Rattle.std.proofs.Common.{◌≡◌, ◌≤◌}
use Rattle.c_store.specs.Made.{all_undone}
use Rattle.c_store.proofs.objects.Objects.undo_all.Given as goal

abbrev pub invariant-loop-left : goal.invariant-loop-left
invariant-loop-left l = (all_undone l.left l.self ≡ all_undone l.fn.count l.fn.self) × (l.left ≤ l.self.made)

abbrev pub decreases-loop-left : goal.decreases-loop-left
decreases-loop-left l = l.left
