use Rattle.std.proofs.Common.{sym, ◌∙◌}
use Rattle.lower_facts.specs.Facts.{facts_in}
use Rattle.lower_statements.proofs.Zeroing.{no_spell, spell_made}
use Rattle.lower_statements.proofs.initialisers.put_spell.Goals as goal

pub returns-in_default-clause-made : goal.returns-in_default-clause-made
returns-in_default-clause-made c =
    no_spell (facts_in c.args.facts.now) c.args.number c.args.index _ _ _ _ (sym c.in_default.is ∙ c.known_text.ensures) c.in_ok-stuck.ensures.made

pub returns-clause-made : goal.returns-clause-made
returns-clause-made c =
    spell_made (facts_in c.args.facts.now) c.args.number c.in-Some.text c.args.index _ _ _ _ (sym c.in-Some.is ∙ c.known_text.ensures) c.in_ok-i.ensures.number
    c.in_ok-i.ensures.added
