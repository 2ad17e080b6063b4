-- Lists of the code as lists of plain trees.
use Rattle.std.specs.Prelude.{Vec, List, map}
use Rattle.std.specs.Global.{Global}
use Rattle.c_syntax.specs.declared.expr.Expr.{Expr}
use Rattle.c_syntax.specs.declared.expr.Link.{Link}
use Rattle.c_syntax.specs.declared.expr.PostfixOperator.{PostfixOperator}
use Rattle.c_syntax.specs.Words.{ExprTree, LinkList, PostfixList, plain_expr, plain_link, plain_postfix}

abbrev pub plain_items : Vec Expr Global → List ExprTree
plain_items v = map plain_expr v.items

abbrev pub plain_link_list : Vec Link Global → List (LinkList → LinkList)
plain_link_list v = map plain_link v.items

abbrev pub plain_operator_list : Vec PostfixOperator Global → List (PostfixList → PostfixList)
plain_operator_list v = map plain_postfix v.items
