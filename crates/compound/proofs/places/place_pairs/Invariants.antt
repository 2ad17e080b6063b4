use Rattle.std.proofs.Common.{◌≡◌, ◌-◌, ◌++◌}
use Rattle.std.specs.List.{range_with_len}
use Rattle.compound.specs.Pairs.{pairs_of}
use Rattle.compound.proofs.places.place_pairs.Given as goal

abbrev pub invariant-loop-left : goal.invariant-loop-left
invariant-loop-left l = l.pairs.items ++ pairs_of (range_with_len l.left (l.count - l.left)) ≡ pairs_of (range_with_len 0 l.count)
