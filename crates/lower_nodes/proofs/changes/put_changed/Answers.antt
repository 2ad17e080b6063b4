use Rattle.lower_facts.specs.Facts.{facts_in, sites_in}
use Rattle.lower_nodes.proofs.Changing.{change_made}
use Rattle.lower_nodes.proofs.changes.put_changed.Goals as goal

pub returns-clause-made : goal.returns-clause-made
returns-clause-made c =
    change_made (facts_in c.args.facts.now) (sites_in c.args.facts.now) c.args.token c.args.of _ _ _ _ _ _ _ _ _ _ _ c.in_ok-updates.ensures.made c.in_ok-swap.ensures.number c.in_ok-swap.ensures.added c.in_ok-load.ensures.made c.in_ok-i.ensures.number c.in_ok-i.ensures.added
