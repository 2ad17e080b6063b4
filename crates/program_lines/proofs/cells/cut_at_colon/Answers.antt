use Rattle.std.proofs.Common.{sym, ap, ◌∙◌}
use Rattle.program_lines.specs.CellRuns.{cut_at_colon}
use Rattle.program_lines.proofs.CellLoops.{cut-none, cut-some}
use Rattle.program_lines.proofs.cells.cut_at_colon.Goals as goal

pub returns-in-None : goal.returns-in-None
returns-in-None c = sym (cut-none c.args.field.now c.in-None.ensures)

pub returns-in-Some : goal.returns-in-Some
returns-in-Some c = sym (ap cut_at_colon c.in-Some.ensures.0 ∙ cut-some c.in-Some.before.now c.in-Some.after.now c.in-Some.ensures.1)
