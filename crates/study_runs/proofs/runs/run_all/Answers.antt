use Rattle.std.proofs.Common.{refl}
use Rattle.study_runs.proofs.Made.{have_run, left, of_study}
use Rattle.study_runs.proofs.runs.run_all.Goals as goal

pub run_planned-requires-clause-covers : goal.run_planned-requires-clause-covers
run_planned-requires-clause-covers g c = λ number least most. c.requires.rate

pub fault_of-requires : goal.fault_of-requires
fault_of-requires g c = of_study _ c.args.plan _ _ _ c.in-Err.fault c.in-Err.ensures.left

pub returns-in-Ok-clause-ran : goal.returns-in-Ok-clause-ran
returns-in-Ok-clause-ran g c = have_run _ c.args.plan _ _ _ _ _ refl refl c.in-Ok.ensures.ran

pub returns-clause-left : goal.returns-clause-left
returns-clause-left g c = left _ c.args.plan _ _ _ c.in-Err.fault _ c.fault_of.ensures c.in-Err.ensures.left
