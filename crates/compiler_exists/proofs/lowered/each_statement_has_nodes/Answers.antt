use Rattle.compiler_exists.proofs.Statements.{statement}
use Rattle.compiler_exists.proofs.lowered.each_statement_has_nodes.Goals as goal

pub returns : goal.returns
returns c = λ facts sites gives y. statement facts sites gives y
