use Rattle.command_transform.specs.Transform.{plan_of}
use Rattle.headline.specs.Chain.{meant_run}
use Rattle.headline.proofs.Ranking.{run-means}
use Rattle.headline.proofs.SessionUnrefused.{no-session}
use Rattle.headline.proofs.unrefused.no_session_is_refused.Goals as goal

pub returns : goal.returns
returns c = λ words text file tree known s held texts made left bundles edits is accepted tells are same spelled hold spell plain removes one few few_lines refused.
    let by = plan_of words in
    no-session c.one_report.ensures c.one_collection.ensures c.written_collection.ensures c.one_program.ensures c.one_list.ensures c.order_does_not_matter.ensures.members
    c.order_does_not_matter.ensures.same c.one_ending.ensures c.one_bank.ensures c.reports_of_runs_are_taken.ensures file is.program is.spells (meant_run tree known by)
    (run-means c.one_ending.ensures c.one_program.ensures c.one_accepted_text.ensures.tree c.one_accepted_text.ensures.known text file by is.program is.compiled is.spells tree known accepted)
    s held texts made left bundles edits tells are same spelled hold spell plain removes one few few_lines refused
