-- How much there is to emit: each construct counts, so that what is within it counts less.
use Rattle.std.specs.Prelude.{ℕ, ◌+◌}
use Rattle.c_syntax.specs.ExprTree as e
use Rattle.c_syntax.specs.ExprTree.{ExprTree, ExprList, LinkList, PostfixList}

abbrev mutual
  pub weight : ExprTree → ℕ
  weight (e.Comma token operands) = 8 + exprs_weight operands
  weight (e.Assign token sign target value) = 8 + weight target + weight value
  weight (e.Conditional token condition first second) = 8 + weight condition + weight first + weight second
  weight (e.Chain level first links) = 8 + weight first + links_weight links
  weight (e.Cast token base stars operand) = 8 + weight operand
  weight (e.Prefix token operator operand) = 8 + weight operand
  weight (e.SizeOfType token base stars) = 8
  weight (e.Postfix primary operators) = 8 + weight primary + postfix_weight operators
  weight (e.Name token name) = 8
  weight (e.Call token name arguments) = 8 + exprs_weight arguments
  weight (e.Constant token kind value) = 8
  weight (e.Strings token parts) = 8
  weight (e.Paren token inner) = 8 + weight inner
  weight (e.Null token) = 8
  weight (e.EndOfFile token) = 8

  pub exprs_weight : ExprList → ℕ
  exprs_weight e.no_exprs = 0
  exprs_weight (e.more_exprs x rest) = 8 + weight x + exprs_weight rest

  pub links_weight : LinkList → ℕ
  links_weight e.no_links = 0
  links_weight (e.more_links token sign operand rest) = 8 + weight operand + links_weight rest

  pub postfix_weight : PostfixList → ℕ
  postfix_weight e.no_postfix = 0
  postfix_weight (e.index token i rest) = 8 + weight i + postfix_weight rest
  postfix_weight (e.member token name rest) = 8 + postfix_weight rest
  postfix_weight (e.arrow token name rest) = 8 + postfix_weight rest
  postfix_weight (e.increment token rest) = 8 + postfix_weight rest
  postfix_weight (e.decrement token rest) = 8 + postfix_weight rest
