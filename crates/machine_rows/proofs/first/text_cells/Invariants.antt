use Rattle.std.proofs.Common.{◌≡◌, ◌++◌, map, drop}
use Rattle.cbi_base.specs.Scalars.{char_of}
use Rattle.machine_rows.proofs.first.text_cells.Given as goal

abbrev pub invariant-loop-byte : goal.invariant-loop-byte
invariant-loop-byte l = l.words.items ++ map char_of (drop l.byte-index l.bytes) ≡ map char_of l.bytes
