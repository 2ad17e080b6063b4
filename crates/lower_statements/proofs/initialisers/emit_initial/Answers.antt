use Rattle.std.proofs.Common.{Some, ap}
use Rattle.c_syntax.specs.Plain.{plain_initial}
use Rattle.lower_facts.specs.Facts.{facts_in, sites_in}
use Rattle.lower_statements.proofs.Zeroing.{braced_made}
use Rattle.lower_statements.proofs.initialisers.emit_initial.Goals as goal

pub returns-in_ok-i-in-Braced-clause-made : goal.returns-in_ok-i-in-Braced-clause-made
returns-in_ok-i-in-Braced-clause-made c =
    braced_made (facts_in c.args.facts.now) (sites_in c.args.facts.now) c.args.token _ _ _ _ _ _ _ _ _ _ _ _ (ap (λ x. Some (plain_initial x)) c.in-Braced.is)
    c.slot_at.ensures c.element_at.ensures (rw c.as_slice.ensures at c.in_ok-elements-in-Braced.ensures.made) c.in_ok-i-in-Braced.ensures.made
