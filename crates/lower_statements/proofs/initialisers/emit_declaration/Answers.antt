use Rattle.lower_statements.proofs.initialisers.emit_declaration.Goals as goal

pub returns-clause-made : goal.returns-clause-made
returns-clause-made c = rw c.as_slice.ensures at c.in_ok-i.ensures.made
