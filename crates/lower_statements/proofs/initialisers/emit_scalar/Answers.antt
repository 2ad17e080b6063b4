use Rattle.std.proofs.Common.{refl}
use Rattle.c_syntax.specs.Plain.{plain_expr}
use Rattle.lower_facts.specs.Facts.{facts_in, sites_in}
use Rattle.lower_statements.proofs.Initialising.{scalar_made}
use Rattle.lower_statements.proofs.initialisers.emit_scalar.Goals as goal

pub returns-clause-made : goal.returns-clause-made
returns-clause-made c =
    scalar_made (facts_in c.args.facts.now) (sites_in c.args.facts.now) c.args.token _ (plain_expr c.args.x.now) _ _ _ _ _ _ _ _ _ _ _ _ refl c.declared_at.ensures c.slot_at.ensures c.in_ok-drop.ensures.number c.in_ok-drop.ensures.added
    c.in_ok-assigned.ensures.made c.in_ok-wanted.ensures.made c.in_ok-i.ensures.made
