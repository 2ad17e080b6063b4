use Rattle.std.proofs.Common.{subst}
use Rattle.flow.specs.Spelling.{SpellsProgram}
use Rattle.command_transform.specs.Transform.{plan_of}
use Rattle.headline.proofs.Ranking.{ranks-meaning}
use Rattle.headline.proofs.laws.a_ranking_of_runs_is_the_elimination.Goals as goal

pub returns : goal.returns
returns c = λ words text file held r ranking made tree known is accepted ranked program_is are.
    ranks-meaning c.one_ending.ensures c.one_program.ensures c.one_accepted_text.ensures.tree c.one_accepted_text.ensures.known text file (plan_of words) is.program is.compiled is.spells
    tree known accepted made ranked.bundle.reports r.policy ranked.parts ranking
    (subst (λ bytes. SpellsProgram bytes ranked.parts) program_is ranked.spell.spell.program) are ranked.ranking
