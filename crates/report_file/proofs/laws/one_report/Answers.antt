use Rattle.report_file.proofs.Once.{spells-once}
use Rattle.report_file.proofs.laws.one_report.Goals as goal

pub returns : goal.returns
returns c = spells-once
