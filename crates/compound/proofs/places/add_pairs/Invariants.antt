use Rattle.std.proofs.Common.{◌≡◌, ℕ, ◌+◌, ◌-◌, ◌++◌, map}
use Rattle.std.specs.List.{range_with_len}
use Rattle.compound.proofs.places.add_pairs.Given as goal

abbrev pub invariant-loop-right : goal.invariant-loop-right
invariant-loop-right l = l.pairs.items ≡ l.initial.pairs.items ++ map (λ (right : ℕ). (l.left, right)) (range_with_len (l.left + 1) (l.right - (l.left + 1)))
