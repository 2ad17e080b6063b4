use Rattle.report_file.specs.RunLine.{line_of}
use Rattle.report_file.proofs.RunLines.{run-joined}
use Rattle.report_file.proofs.run_line.push_run_line.Goals as goal

pub returns : goal.returns
returns c =
    run-joined (line_of c.args.report.now) c.args.out.now.items c.push_run.new.out.items c.push.new.self.items c.push_outcome.new.out.items c.push-2.new.self.items c.push_label.new.out.items c.push-3.new.self.items c.push_work.new.out.items c.push-4.new.self.items
    c.in_ok-push_run.ensures c.in_ok-push.ensures.items c.in_ok-push_outcome.ensures c.in_ok-push-2.ensures.items c.in_ok-push_label.ensures c.in_ok-push-3.ensures.items c.in_ok-push_work.ensures c.in_ok-push-4.ensures.items
