use Rattle.cbi_base.specs.Text.{line_with_newline, line_of_fields}
use Rattle.report_file.specs.Spelling.{label_fields, outcome_line, program_fields, run_fields, title_fields, work_fields}
use Rattle.report_file.specs.declared.draft.Version.TheVariants.{Second}
use Rattle.report_file.proofs.Joining.{head-joined}
use Rattle.report_file.proofs.writing.push_head.Goals as goal

pub returns : goal.returns
returns c =
    let r = c.args.report.now in
    head-joined c.args.out.now.items (line_with_newline (line_of_fields (title_fields Second))) (line_with_newline (line_of_fields (program_fields r.program))) (line_with_newline (line_of_fields (run_fields r.run))) (line_with_newline (line_of_fields (outcome_line r.outcome))) (line_with_newline (line_of_fields (label_fields r.label))) (line_with_newline (line_of_fields (work_fields r.work)))
    c.push_title.new.out.items c.push_run_line.new.out.items c.push_outcome_line.new.out.items c.push_label_line.new.out.items c.push_work_line.new.out.items
    c.in_ok-push_title.ensures c.in_ok-push_run_line.ensures c.in_ok-push_outcome_line.ensures c.in_ok-push_label_line.ensures c.in_ok-push_work_line.ensures
