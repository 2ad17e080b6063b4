use Rattle.report_file.proofs.Once.{leads-once}
use Rattle.report_file.proofs.laws.one_state.Goals as goal

pub returns : goal.returns
returns c = leads-once
