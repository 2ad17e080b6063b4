use Rattle.c_syntax.specs.Plain.{plain_expr}
use Rattle.lower_facts.specs.Facts.{facts_in, sites_in}
use Rattle.lower_statements.specs.Exits.{exits_of}
use Rattle.lower_statements.proofs.Looping.{returned_made}
use Rattle.lower_statements.proofs.statements.emit_return.Goals as goal

pub returns-in_ok-i-in-Some-clause-made : goal.returns-in_ok-i-in-Some-clause-made
returns-in_ok-i-in-Some-clause-made c =
    rw c.in-Some.is (returned_made (facts_in c.args.facts.now) (sites_in c.args.facts.now) c.args.gives (plain_expr c.in-Some.x) _ _ _ (exits_of c.args.exits) c.in_ok-i-in-Some.ensures.made)
