use Rattle.std.proofs.Common.{subst}
use Rattle.collector.specs.Spelling.{SpellsBundle}
use Rattle.headline.proofs.ListedRanked.{listed-held}
use Rattle.headline.proofs.listed.the_ranking_of_runs_is_the_elimination.Goals as goal

pub returns : goal.returns
returns c = λ words text file collection ranking made held r tree known is accepted left ranked program_is collection_is.
    c.a_ranking_of_runs_is_the_elimination.ensures words text file held r ranking made tree known is accepted ranked program_is
    (listed-held c.one_collection.ensures c.written_collection.ensures file made collection ranked.bundle left
    (subst (λ bytes. SpellsBundle bytes ranked.bundle) collection_is ranked.spell.spell.collection))
