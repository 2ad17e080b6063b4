use Rattle.session_edits.proofs.LineLemmas.{add-none, add-reads}
use Rattle.session_edits.proofs.lines.added_run_in.Goals as goal

pub returns-in_default : goal.returns-in_default
returns-in_default c = add-none c.args.line.now c.in_default.ensures

pub returns : goal.returns
returns c = add-reads c.args.line.now c.in-Some.rest.now c.run_line_in.result c.in-Some.ensures c.run_line_in.ensures
