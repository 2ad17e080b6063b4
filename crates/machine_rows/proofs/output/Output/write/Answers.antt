use Rattle.std.proofs.Common.{None, get_or, drop, suc, add-one, subst, sym, arith}
use Rattle.std.proofs.Math.Seq.{drop-cons}
use Rattle.cbi_base.specs.Printing.{bytes_printed}
use Rattle.machine_rows.specs.Printed.{IsPrinted}
use Rattle.machine_rows.proofs.PrintedLemmas.{byte_first, nothing_on}
use Rattle.machine_rows.proofs.StringLemmas.{dropped_all}
use Rattle.machine_rows.proofs.output.Output.write.Goals as goal

pub loop-byte-preserved : goal.loop-byte-preserved
loop-byte-preserved c = λ o end rest.
    let bytes = c.args.bytes.now in
    let i = c.loop-byte.byte-index in
    c.loop-byte.invariant o end
    (subst (λ l. IsPrinted (bytes_printed l) c.loop-byte.self o end) (sym (drop-cons bytes i 0 c.loop-byte-test.true))
    (byte_first (get_or bytes i 0) (drop (suc i) bytes) c.loop-byte.self c.put.new.self end o c.in_ok-put.ensures (rw add-one at rest)))

pub returns : goal.returns
returns c =
    let bytes = c.args.bytes.now in
    let none = dropped_all bytes c.loop-byte.byte-index (omega arith) in
    c.loop-byte.invariant None c.loop-byte.self
    (subst (λ l. IsPrinted (bytes_printed l) c.loop-byte.self None c.loop-byte.self) (sym none) (nothing_on c.loop-byte.self c.len.ensures.most))
