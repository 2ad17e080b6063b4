use Rattle.lines_laws.proofs.Reports.{reports_are_lines}
use Rattle.lines_laws.proofs.laws.reports_are_lines.Goals as goal

pub returns : goal.returns
returns c = reports_are_lines
