use Rattle.std.proofs.Common.{subst}
use Rattle.flow.specs.Spelling.{SpellsProgram}
use Rattle.collector.specs.Spelling.{SpellsBundle}
use Rattle.command_transform.specs.Transform.{plan_of}
use Rattle.headline.specs.Handed.{by_number}
use Rattle.headline.proofs.HeadlineMeant.{pairs-meaning}
use Rattle.headline.proofs.headline.pairs_are_of_meant_runs.Goals as goal

pub returns : goal.returns
returns c = λ words text file collection pairs made held w tree known is accepted are paired program_is collection_is.
    pairs-meaning c.one_ending.ensures c.one_program.ensures c.one_accepted_text.ensures.tree c.one_accepted_text.ensures.known text file (plan_of words) is.program is.compiled is.spells
    tree known accepted (by_number made) paired.bundle.reports paired.parts pairs (subst (λ bytes. SpellsProgram bytes paired.parts) program_is paired.spell.spell.program)
    (c.collections_hold_their_runs.ensures file collection made paired.bundle are (subst (λ bytes. SpellsBundle bytes paired.bundle) collection_is paired.spell.spell.collection))
    (record { found = paired.found; is_found = paired.is_found; text_is = paired.text_is })
