use Rattle.std.proofs.Common.{drop}
use Rattle.cbi_base.specs.Printing.{bytes_printed}
use Rattle.machine_rows.specs.Strings.{Continues}
use Rattle.machine_rows.proofs.output.Output.write.Given as goal

abbrev pub invariant-loop-byte : goal.invariant-loop-byte
invariant-loop-byte l = Continues (bytes_printed (drop l.byte-index l.bytes)) (bytes_printed l.bytes) l.fn.self l.self
