use Rattle.c_syntax.specs.Plain.{plain_expr}
use Rattle.lower_facts.specs.Facts.{facts_in, sites_in}
use Rattle.std.proofs.Common.{arith}
use Rattle.lower_expressions.proofs.Placing.{nowhere_made}
use Rattle.lower_expressions.proofs.Rooms.{nowhere_room}
use Rattle.lower_expressions.proofs.places.put_nowhere.Goals as goal

pub returns-clause-made : goal.returns-clause-made
returns-clause-made c = nowhere_made (facts_in c.args.facts.now) (sites_in c.args.facts.now) (plain_expr c.args.x.now) _ _ _ _ c.requires.given c.in_ok-i.ensures.made

pub returns-clause-few : goal.returns-clause-few
returns-clause-few c = omega (arith, c.in_ok-i.ensures.few, nowhere_room (sites_in c.args.facts.now) (plain_expr c.args.x.now) c.requires.given)
