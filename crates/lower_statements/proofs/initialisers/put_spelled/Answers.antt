use Rattle.std.proofs.Common.{sym, ◌∙◌}
use Rattle.c_meaning.specs.Meaning.{text_of_string}
use Rattle.c_syntax.specs.Plain.{plain_expr}
use Rattle.lower_facts.specs.Facts.{facts_in}
use Rattle.lower_relation.specs.Expressions.{number_of_text}
use Rattle.lower_relation.specs.Initialisers.{Spells}
use Rattle.lower_statements.proofs.Zeroing.{off_local, on_local, text_found}
use Rattle.lower_statements.proofs.initialisers.put_spelled.Goals as goal

pub returns-in_default-clause-made : goal.returns-in_default-clause-made
returns-in_default-clause-made c =
    off_local (λ G. Spells G (number_of_text (facts_in c.args.facts.now) (plain_expr c.args.x.now)) (text_of_string (facts_in c.args.facts.now) (plain_expr c.args.x.now)))
    c.args.slot _ _ _ _ (sym c.in_default.is ∙ c.local_of.ensures) c.in_ok-stuck.ensures.made

pub returns-clause-made : goal.returns-clause-made
returns-clause-made c =
    on_local (λ G. Spells G (number_of_text (facts_in c.args.facts.now) (plain_expr c.args.x.now)) (text_of_string (facts_in c.args.facts.now) (plain_expr c.args.x.now)))
    c.args.slot c.in-Some.index _ _ _ _ (sym c.in-Some.is ∙ c.local_of.ensures)
    (text_found (facts_in c.args.facts.now) (plain_expr c.args.x.now) c.in-Some.index _ _ _ _ (rw c.number_of_text.ensures at c.in_ok-i.ensures.made))
