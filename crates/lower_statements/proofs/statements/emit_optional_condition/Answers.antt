use Rattle.lower_statements.proofs.statements.emit_optional_condition.Goals as goal

pub returns-in_ok-i-in-Some-clause-made : goal.returns-in_ok-i-in-Some-clause-made
returns-in_ok-i-in-Some-clause-made c = rw c.in-Some.is c.in_ok-i-in-Some.ensures.made
