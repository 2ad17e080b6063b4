use Rattle.c_syntax.specs.Plain.{plain_start}
use Rattle.lower_facts.specs.Facts.{facts_in, sites_in}
use Rattle.lower_statements.proofs.Initialising.{start_made}
use Rattle.lower_statements.proofs.initialisers.emit_start.Goals as goal

pub returns-clause-made : goal.returns-clause-made
returns-clause-made c =
    start_made (facts_in c.args.facts.now) (sites_in c.args.facts.now) (plain_start c.args.start.now) _ _ _ _ _ _ _ c.slot_at.ensures c.in_ok-initialised.ensures.made
    c.in_ok-i.ensures.made
