use Rattle.lower_facts.specs.Facts.{facts_in, sites_in}
use Rattle.lower_nodes.proofs.Visiting.{decided_made}
use Rattle.lower_nodes.proofs.marks.put_decided.Goals as goal

pub returns-clause-made : goal.returns-clause-made
returns-clause-made c =
    decided_made (facts_in c.args.facts.now) (sites_in c.args.facts.now) c.args.token _ _ _ _ _ _ _ _ c.branch_at.ensures c.in_ok-fork.ensures.number c.in_ok-fork.ensures.added c.in_ok-i.ensures.made
