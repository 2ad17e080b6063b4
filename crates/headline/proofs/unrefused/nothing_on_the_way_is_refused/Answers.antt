use Rattle.command_transform.specs.Transform.{plan_of}
use Rattle.headline.specs.Chain.{meant_run}
use Rattle.headline.proofs.Ranking.{run-means}
use Rattle.headline.proofs.NoneRefused.{no-collection, no-ranking, no-run}
use Rattle.headline.proofs.WideningUnrefused.{no-widening}
use Rattle.headline.proofs.unrefused.nothing_on_the_way_is_refused.Goals as goal

pub returns-clause-runs : goal.returns-clause-runs
returns-clause-runs c = λ words text file r held files is tells are same given fits refused.
    no-run file is.program is.spells r held files tells are same given fits refused

pub returns-clause-collections : goal.returns-clause-collections
returns-clause-collections c = λ words text file tree known w held texts made is accepted tells are same hold one few few_lines refused.
    let by = plan_of words in
    no-collection c.one_report.ensures c.one_collection.ensures c.written_collection.ensures c.one_program.ensures file c.order_does_not_matter.ensures.members c.order_does_not_matter.ensures.same
    c.groups_do_not_matter.ensures.refused c.reports_are_taken_whole.ensures.taken c.one_ending.ensures c.one_bank.ensures c.reports_of_runs_are_taken.ensures
    is.program is.spells (meant_run tree known by)
    (run-means c.one_ending.ensures c.one_program.ensures c.one_accepted_text.ensures.tree c.one_accepted_text.ensures.known text file by is.program is.compiled is.spells tree known accepted)
    w held texts made tells are same hold one few few_lines refused

pub returns-clause-rankings : goal.returns-clause-rankings
returns-clause-rankings c = λ file inner held program collection texts tells are same left refused.
    no-ranking c.one_report.ensures c.one_collection.ensures c.written_collection.ensures c.one_program.ensures file inner held program collection texts tells are same left refused

pub returns-clause-widenings : goal.returns-clause-widenings
returns-clause-widenings c = λ words text whole file inner w held texts none is shared tells are whole_is program_is left refused.
    no-widening c.one_ending.ensures c.one_program.ensures c.one_accepted_text.ensures.tree c.one_accepted_text.ensures.known c.one_report.ensures c.one_collection.ensures c.written_collection.ensures
    words text whole file inner w held texts none is shared tells are whole_is program_is left refused
