use Rattle.lower_facts.specs.Facts.{facts_in, sites_in}
use Rattle.lower_nodes.proofs.Changing.{update_made}
use Rattle.lower_nodes.proofs.changes.put_updates.Goals as goal

pub returns-clause-made : goal.returns-clause-made
returns-clause-made c =
    update_made (facts_in c.args.facts.now) (sites_in c.args.facts.now) c.args.token c.args.of _ _ _ _ _ _ _ _ _ _ c.type_given.ensures c.in_ok-stored.ensures.made c.in_ok-converted.ensures.made c.in_ok-i.ensures.made
