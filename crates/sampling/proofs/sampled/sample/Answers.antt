use Rattle.sampling.proofs.Whole.{sampled_runs}
use Rattle.sampling.proofs.sampled.sample.Goals as goal

pub returns-clause-samples : goal.returns-clause-samples
returns-clause-samples c =
    λ ready. sampled_runs c.args.program c.in_ok-sampled.sampled c.main-main.ensures.is_program c.requires ready c.in_ok-sampled.ensures.cloned
