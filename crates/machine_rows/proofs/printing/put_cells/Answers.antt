use Rattle.std.proofs.Common.{Some, None, get_or, drop, suc, subst, sym, arith}
use Rattle.std.specs.Prelude.{Ok}
use Rattle.std.proofs.Math.Seq.{drop-cons}
use Rattle.cbi_base.specs.Printing.{string_on}
use Rattle.cbi_base.specs.declared.trap.Trap.TheVariants as trap
use Rattle.cbi_base.specs.declared.outcome.Outcome.TheVariants.{Trapped}
use Rattle.machine_rows.specs.declared.stop.Stop.TheVariants as stop
use Rattle.machine_rows.specs.Printed.{IsPrinted}
use Rattle.machine_rows.specs.Strings.{IsCellPut}
use Rattle.machine_rows.proofs.PrintedLemmas.{stops_here}
use Rattle.machine_rows.proofs.StringLemmas.{dropped_all}
use Rattle.machine_rows.proofs.printing.put_cells.Goals as goal

pub returns-then-not-branch : goal.returns-then-not-branch
returns-then-not-branch c =
    let cells = c.args.cells.now in
    let i = c.loop-cell.cell-index in
    let ended = subst (λ b. IsCellPut (get_or cells i c.cell-item.result) c.loop-cell.output (Ok b) c.put_cell.new.output) c.if-not-branch.true
    (subst (λ w. IsCellPut w c.loop-cell.output (Ok c.in_ok-put_cell.field-0) c.put_cell.new.output) c.cell-item.is c.in_ok-put_cell.ensures) in
    c.loop-cell.invariant None c.put_cell.new.output
    (subst (λ l. IsPrinted (string_on l) c.loop-cell.output None c.put_cell.new.output) (sym (drop-cons cells i c.cell-item.result c.loop-cell-test.true)) (ended (drop (suc i) cells)))

pub returns : goal.returns
returns c =
    let cells = c.args.cells.now in
    let none = dropped_all cells c.loop-cell.cell-index (omega arith) in
    c.loop-cell.invariant (Some c.from.result) c.loop-cell.output
    (subst (λ e. IsPrinted (string_on (drop c.loop-cell.cell-index cells)) c.loop-cell.output (Some e) c.loop-cell.output) (sym c.from.ensures)
    (subst (λ l. IsPrinted (string_on l) c.loop-cell.output (Some (stop.Over (Trapped trap.Bounds))) c.loop-cell.output) (sym none) (stops_here c.loop-cell.output trap.Bounds c.len.ensures.most)))
