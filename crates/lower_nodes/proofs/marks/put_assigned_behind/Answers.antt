use Rattle.std.proofs.Common.{◌+◌}
use Rattle.lower_facts.specs.Facts.{facts_in, sites_in}
use Rattle.lower_nodes.proofs.Visiting.{assigned_made}
use Rattle.lower_nodes.proofs.marks.put_assigned_behind.Goals as goal

pub returns-clause-made : goal.returns-clause-made
returns-clause-made c =
    assigned_made (facts_in c.args.facts.now) (sites_in c.args.facts.now) (c.args.token + 1) _ _ _ _ _ _ _ c.pairs_behind.ensures c.in_ok-marks.ensures.made c.in_ok-stored.ensures.number c.in_ok-stored.ensures.added
