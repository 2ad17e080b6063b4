use Rattle.std.proofs.Common.{◌<◌, ◌++◌, length, map, sym, ◌∙◌, rules}
use Rattle.flow.specs.Spelling.{cell_runs, run_word}
use Rattle.program_writer.specs.Written.{fields_behind}
use Rattle.program_writer.proofs.WriteLemmas.{room-ends, room-grows, run-ends, run-grows}
use Rattle.program_writer.proofs.write_cells.push_runs.Goals as goal

pub loop-rest-preserved-then-same_cell : goal.loop-rest-preserved-then-same_cell
loop-rest-preserved-then-same_cell c =
    let l = c.loop-rest in
    let some : 0 < length l.rest.now = search rules in
    let all = c.args.out.now.items ++ fields_behind (map run_word (cell_runs c.args.cells.now)) in (
      run-grows l.out.items all l.count l.held _ l.rest.now some (sym c.same_cell.ensures ∙ c.if-same_cell.true) l.invariant.0,
      room-grows l.count (length c.args.cells.now) l.rest.now l.held some l.invariant.1,
    )

pub loop-rest-preserved : goal.loop-rest-preserved
loop-rest-preserved c =
    let l = c.loop-rest in
    let some : 0 < length l.rest.now = search rules in
    let all = c.args.out.now.items ++ fields_behind (map run_word (cell_runs c.args.cells.now)) in (
      run-ends l.out.items all c.push_run.new.out.items l.count l.held _ l.rest.now some (sym c.same_cell.ensures ∙ c.if-same_cell.false) c.in_ok-push_run.ensures l.invariant.0,
      room-ends l.count (length c.args.cells.now) l.rest.now l.held some l.invariant.1,
    )
