use Rattle.lower_statements.proofs.statements.emit_for_start.Goals as goal

pub returns-in_ok-i-in-Declares-clause-made : goal.returns-in_ok-i-in-Declares-clause-made
returns-in_ok-i-in-Declares-clause-made c = rw c.in-Declares.is c.in_ok-i-in-Declares.ensures.made

pub returns-in_ok-i-in-Computes-clause-made : goal.returns-in_ok-i-in-Computes-clause-made
returns-in_ok-i-in-Computes-clause-made c = rw c.in-Computes.is c.in_ok-i-in-Computes.ensures.made
