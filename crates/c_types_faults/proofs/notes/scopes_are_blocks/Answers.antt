use Rattle.c_types_faults.proofs.Scopes.{scopes_are_named, scopes_hold}
use Rattle.c_types_faults.proofs.notes.scopes_are_blocks.Goals as goal

pub returns-clause-scopes : goal.returns-clause-scopes
returns-clause-scopes c = scopes_hold

pub returns-clause-names : goal.returns-clause-names
returns-clause-names c = scopes_are_named
