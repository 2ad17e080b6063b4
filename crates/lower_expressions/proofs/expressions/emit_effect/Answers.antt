use Rattle.c_syntax.specs.Plain.{plain_expr}
use Rattle.lower_facts.specs.Facts.{facts_in, sites_in}
use Rattle.lower_nodes.proofs.Serving.{for_effect}
use Rattle.lower_relation.specs.Expressions.{emitted_expression}
use Rattle.lower_expressions.proofs.expressions.emit_effect.Goals as goal

pub returns-clause-made : goal.returns-clause-made
returns-clause-made c = for_effect (λ G. emitted_expression G (facts_in c.args.facts.now) (sites_in c.args.facts.now) (plain_expr c.args.x.now)) _ _ _ _ c.in_ok-i.ensures.made
