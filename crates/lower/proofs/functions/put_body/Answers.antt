use Rattle.lower_facts.specs.Facts.{facts_in, sites_in}
use Rattle.lower_statements.specs.Exits.{exits_of}
use Rattle.lower.proofs.Bodying.{no_body}
use Rattle.lower.proofs.functions.put_body.Goals as goal

pub returns-in_ok-stuck-in-None-clause-made : goal.returns-in_ok-stuck-in-None-clause-made
returns-in_ok-stuck-in-None-clause-made c =
    rw c.in-None.is (no_body (facts_in c.args.facts.now) (sites_in c.args.facts.now) c.args.gives _ _ _ _ (exits_of c.args.exits) c.in_ok-stuck-in-None.ensures.made)

pub returns-in_ok-i-in-Some-clause-made : goal.returns-in_ok-i-in-Some-clause-made
returns-in_ok-i-in-Some-clause-made c = rw c.in-Some.is c.in_ok-i-in-Some.ensures.made
