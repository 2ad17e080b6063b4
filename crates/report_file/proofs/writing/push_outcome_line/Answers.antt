use Rattle.std.proofs.Common.{rules}
use Rattle.report_file.proofs.Joining.{outcome-joined}
use Rattle.report_file.proofs.writing.push_outcome_line.Goals as goal

pub returns : goal.returns
returns c = search (rules, outcome-joined)
