use Rattle.c_syntax.proofs.SameExprs.{same-expr, same-link, same-postfix}
use Rattle.c_syntax.proofs.SameStatements.{same-statement, same-entry}
use Rattle.c_syntax.proofs.same.plain_trees_lose_nothing.Goals as goal

pub returns : goal.returns
returns c = record { exprs = same-expr; links = same-link; operators = same-postfix; statements = same-statement; entries = same-entry }
