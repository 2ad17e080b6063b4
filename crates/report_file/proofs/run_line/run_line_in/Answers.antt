use Rattle.std.proofs.Common.{sym, subst, rules}
use Rattle.report_file.specs.Reading.{Reads}
use Rattle.report_file.specs.RunLine.{IsRunLine, run_line_fields}
use Rattle.report_file.proofs.RunLines.{first-reads, second-reads}
use Rattle.report_file.proofs.run_line.run_line_in.Goals as goal

pub returns-in-First : goal.returns-in-First
returns-in-First c =
    subst (λ v. Reads (run_line_fields v) (IsRunLine v) c.args.line.now c.first_of.result) (sym c.in-First.is) (first-reads c.args.line.now c.first_of.result (search rules))

pub returns-in-Second : goal.returns-in-Second
returns-in-Second c =
    subst (λ v. Reads (run_line_fields v) (IsRunLine v) c.args.line.now c.second_of.result) (sym c.in-Second.is) (second-reads c.args.line.now c.second_of.result (search rules))
