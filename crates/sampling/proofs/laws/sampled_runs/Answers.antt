use Rattle.sampling.proofs.Whole.{sampled_runs}
use Rattle.sampling.proofs.laws.sampled_runs.Goals as goal

pub returns : goal.returns
returns c = sampled_runs
