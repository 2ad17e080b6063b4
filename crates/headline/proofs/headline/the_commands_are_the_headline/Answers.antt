use Rattle.std.proofs.Common.{subst}
use Rattle.collector.specs.Spelling.{SpellsBundle}
use Rattle.headline.specs.Handed.{by_number}
use Rattle.headline.proofs.headline.the_commands_are_the_headline.Goals as goal

pub returns : goal.returns
returns c = λ words text file collection ranking made held r tree known is accepted are ranked program_is collection_is.
    c.a_ranking_of_runs_is_the_elimination.ensures words text file held r ranking (by_number made) tree known is accepted ranked program_is
    (c.collections_hold_their_runs.ensures file collection made ranked.bundle are (subst (λ bytes. SpellsBundle bytes ranked.bundle) collection_is ranked.spell.spell.collection))
