use Rattle.std.proofs.Common.{subst}
use Rattle.flow.specs.Spelling.{SpellsProgram}
use Rattle.collector.specs.Spelling.{SpellsBundle}
use Rattle.command_transform.specs.Transform.{plan_of}
use Rattle.headline.specs.Handed.{by_number}
use Rattle.headline.proofs.HeadlineBugs.{bugs-meaning}
use Rattle.headline.proofs.headline.bugs_are_of_meant_runs.Goals as goal

pub returns : goal.returns
returns c = λ words text file collection bugs made held w work tree known is accepted are listed program_is collection_is.
    bugs-meaning c.one_ending.ensures c.one_program.ensures c.one_accepted_text.ensures.tree c.one_accepted_text.ensures.known text file (plan_of words) is.program is.compiled is.spells
    tree known accepted work (by_number made) listed.bundle.reports listed.parts w.most w.also bugs (subst (λ bytes. SpellsProgram bytes listed.parts) program_is listed.spell.spell.program)
    (c.collections_hold_their_runs.ensures file collection made listed.bundle are (subst (λ bytes. SpellsBundle bytes listed.bundle) collection_is listed.spell.spell.collection))
    listed.bugs
