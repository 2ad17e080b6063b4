use Rattle.command_transform.specs.Transform.{plan_of}
use Rattle.headline.specs.Chain.{meant_run}
use Rattle.headline.proofs.Ranking.{run-means}
use Rattle.headline.proofs.RunsUnrefused.{no-runs}
use Rattle.headline.proofs.unrefused.no_runs_are_refused.Goals as goal

pub returns : goal.returns
returns c = λ words text file tree known r held texts plan is accepted tells are same spelled fit few refused.
    let by = plan_of words in
    no-runs c.one_list.ensures c.one_program.ensures file is.program is.spells (meant_run tree known by)
    (run-means c.one_ending.ensures c.one_program.ensures c.one_accepted_text.ensures.tree c.one_accepted_text.ensures.known text file by is.program is.compiled is.spells tree known accepted)
    r held texts plan tells same few are spelled fit refused
