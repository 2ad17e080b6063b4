use Rattle.std.proofs.Common.{◌≡◌, take}
use Rattle.std.specs.Prelude.{map}
use Rattle.cbi_base.specs.Scalars.{char_of}
use Rattle.lower_globals.proofs.global_cells.chars.Given as goal

abbrev pub invariant-loop-byte : goal.invariant-loop-byte
invariant-loop-byte l = l.cells.items ≡ map char_of (take l.byte-index l.bytes)
