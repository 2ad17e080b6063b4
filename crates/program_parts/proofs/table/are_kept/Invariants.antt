use Rattle.std.proofs.Common.{◌≡◌, ◌+◌, length}
use Rattle.std.specs.Prelude.{◌↔◌, filter_map}
use Rattle.std.specs.List.{enumerate_from}
use Rattle.program_parts.specs.Part.{item_in, part_of}
use Rattle.program_parts.proofs.table.are_kept.Given as goal

-- the second list has the part's sites exactly where what is left of it has those of what is left
abbrev pub invariant-loop-rest : goal.invariant-loop-rest
invariant-loop-rest l = record {
  same : (l.cut ≡ part_of l.part l.whole) ↔ (l.left ≡ filter_map (item_in l.part) (enumerate_from l.number l.rest));
  number : l.number + length l.rest ≡ length l.whole;
}

abbrev pub decreases-loop-rest : goal.decreases-loop-rest
decreases-loop-rest l = length l.rest
