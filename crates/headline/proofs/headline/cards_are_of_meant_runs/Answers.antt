use Rattle.std.proofs.Common.{subst}
use Rattle.flow.specs.Spelling.{SpellsProgram}
use Rattle.collector.specs.Spelling.{SpellsBundle}
use Rattle.command_transform.specs.Transform.{plan_of}
use Rattle.headline.specs.Handed.{by_number}
use Rattle.headline.proofs.HeadlineMeant.{deals-meaning}
use Rattle.headline.proofs.headline.cards_are_of_meant_runs.Goals as goal

pub returns : goal.returns
returns c = λ words text file collection cards made held w work tree known is accepted are dealt program_is collection_is.
    deals-meaning c.one_ending.ensures c.one_program.ensures c.one_accepted_text.ensures.tree c.one_accepted_text.ensures.known text file (plan_of words) is.program is.compiled is.spells
    tree known accepted work (by_number made) dealt.bundle.reports dealt.parts cards (subst (λ bytes. SpellsProgram bytes dealt.parts) program_is dealt.spell.spell.program)
    (c.collections_hold_their_runs.ensures file collection made dealt.bundle are (subst (λ bytes. SpellsBundle bytes dealt.bundle) collection_is dealt.spell.spell.collection))
    dealt.cards
