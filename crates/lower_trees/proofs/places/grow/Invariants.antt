use Rattle.std.proofs.Common.{◌≡◌, ℕ, ◌-◌, length}
use Rattle.lower_trees.specs.Places.{all_at}
use Rattle.lower_trees.proofs.places.grow.Given as goal

abbrev pub invariant-loop-alloc : goal.invariant-loop-alloc
invariant-loop-alloc l = (token : ℕ) → all_at l.lists.items token ≡ all_at l.fn.lists.items token

abbrev pub decreases-loop-alloc : goal.decreases-loop-alloc
decreases-loop-alloc l = l.count - length l.lists.items
