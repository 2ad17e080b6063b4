use Rattle.std.proofs.Common.{◌≡◌, length}
use Rattle.std.specs.Prelude.{◌↔◌}
use Rattle.program_parts.proofs.table.same_names.Given as goal

-- the lists are the same exactly where what is left of them is
abbrev pub invariant-loop-left : goal.invariant-loop-left
invariant-loop-left l = (l.initial.left ≡ l.initial.right) ↔ (l.left ≡ l.right)

abbrev pub decreases-loop-left : goal.decreases-loop-left
decreases-loop-left l = length l.left
