use Rattle.lower_facts.specs.Facts.{facts_in, sites_in}
use Rattle.lower_operators.proofs.Handing.{given_returned, given_stuck}
use Rattle.lower_operators.proofs.giving.put_given.Goals as goal

pub returns-in_ok-i-in-Returned-clause-made : goal.returns-in_ok-i-in-Returned-clause-made
returns-in_ok-i-in-Returned-clause-made c =
    rw (c.in-Returned.is) (given_returned (facts_in c.args.facts.now) (sites_in c.args.facts.now) c.args.token _ c.args.purpose _ _ _ _ _ c.return_at.ensures
    c.in_ok-after-in-Returned.ensures.made c.in_ok-i-in-Returned.ensures.made)

pub returns-in_ok-i-in_default-clause-made : goal.returns-in_ok-i-in_default-clause-made
returns-in_ok-i-in_default-clause-made c =
    rw (c.in-Nothing.is) (given_stuck (facts_in c.args.facts.now) (sites_in c.args.facts.now) c.args.token c.args.purpose _ _ _ _ c.in_default.not-Effect
    c.in_ok-i-in_default.ensures.made)
