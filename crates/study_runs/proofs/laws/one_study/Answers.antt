use Rattle.study_runs.proofs.Once.{one_list}
use Rattle.study_runs.proofs.laws.one_study.Goals as goal

pub returns : goal.returns
returns c = one_list c.one_ending.ensures c.one_made_run.ensures.bank c.one_made_run.ensures.input
