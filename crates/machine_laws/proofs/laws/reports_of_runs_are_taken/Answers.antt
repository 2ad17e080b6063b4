use Rattle.machine_laws.proofs.Taken.{report_is_taken}
use Rattle.machine_laws.proofs.laws.reports_of_runs_are_taken.Goals as goal

pub returns : goal.returns
returns c = report_is_taken
