use Rattle.lower_facts.specs.Facts.{facts_in, sites_in}
use Rattle.lower_nodes.proofs.Changing.{step_made}
use Rattle.lower_nodes.proofs.changes.put_stepped.Goals as goal

pub returns-clause-made : goal.returns-clause-made
returns-clause-made c =
    step_made (facts_in c.args.facts.now) (sites_in c.args.facts.now) c.args.token c.args.of _ _ _ _ _ _ _ _ _ _ _ _ _ c.step.ensures c.one_kind.ensures c.in_ok-updates.ensures.made c.in_ok-one.ensures.number c.in_ok-one.ensures.added c.in_ok-load.ensures.made c.in_ok-i.ensures.number c.in_ok-i.ensures.added
