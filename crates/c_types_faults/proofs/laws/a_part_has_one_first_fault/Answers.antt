use Rattle.c_types_faults.proofs.FirstExprs.{expr_single}
use Rattle.c_types_faults.proofs.FirstStatements.{statement_single}
use Rattle.c_types_faults.proofs.FirstTexts.{expr_told, item_single}
use Rattle.c_types_faults.proofs.laws.a_part_has_one_first_fault.Goals as goal

pub returns-clause-expression : goal.returns-clause-expression
returns-clause-expression c = expr_single

pub returns-clause-told : goal.returns-clause-told
returns-clause-told c = expr_told

pub returns-clause-statement : goal.returns-clause-statement
returns-clause-statement c = λ gives d looping x. statement_single gives looping x d

pub returns-clause-item : goal.returns-clause-item
returns-clause-item c = λ d x. item_single x d
