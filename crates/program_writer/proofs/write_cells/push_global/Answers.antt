use Rattle.std.proofs.Common.{◌++◌, ap, ◌∙◌, codes, map}
use Rattle.flow.specs.Spelling.{cell_runs, run_word}
use Rattle.program_writer.specs.Written.{fields_behind}
use Rattle.program_writer.proofs.WriteLemmas.{line-joined}
use Rattle.program_writer.proofs.write_cells.push_global.Goals as goal

pub returns : goal.returns
returns c =
    line-joined (codes "global") (map run_word (cell_runs c.args.global.now.cells)) c.args.out.now.items c.extend_from_slice.new.self.items c.push_runs.new.out.items c.push.new.self.items
    c.in_ok-extend_from_slice.ensures.items
    (c.in_ok-push_runs.ensures ∙ ap (λ cells. c.extend_from_slice.new.self.items ++ fields_behind (map run_word (cell_runs cells))) c.as_slice.ensures)
    c.in_ok-push.ensures.items
