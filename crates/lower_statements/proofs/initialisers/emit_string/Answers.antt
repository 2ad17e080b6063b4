use Rattle.c_syntax.specs.Plain.{plain_expr}
use Rattle.lower_facts.specs.Facts.{facts_in, sites_in}
use Rattle.lower_statements.proofs.Zeroing.{string_made}
use Rattle.lower_statements.proofs.initialisers.emit_string.Goals as goal

pub returns-clause-made : goal.returns-clause-made
returns-clause-made c =
    string_made (facts_in c.args.facts.now) (sites_in c.args.facts.now) c.args.token (plain_expr c.args.x.now) _ _ _ _ _ _ _ _ _ c.slot_at.ensures c.slot_at-2.ensures
    c.element_at.ensures c.in_ok-spelled.ensures.made c.in_ok-i.ensures.made
