-- The index of an expression's first token.
use Rattle.std.specs.Prelude.{ℕ}
use Rattle.c_syntax.specs.ExprTree as e
use Rattle.c_syntax.specs.ExprTree.{ExprTree, ExprList}

abbrev mutual
  -- Its own token is the first, unless another expression stands before that.
  pub first_token : ExprTree → ℕ
  first_token (e.Comma token operands) = first_of token operands
  first_token (e.Assign token sign target value) = first_token target
  first_token (e.Conditional token condition first second) = first_token condition
  first_token (e.Chain level first links) = first_token first
  first_token (e.Cast token base stars operand) = token
  first_token (e.Prefix token operator operand) = token
  first_token (e.SizeOfType token base stars) = token
  first_token (e.Postfix primary operators) = first_token primary
  first_token (e.Name token name) = token
  first_token (e.Call token name arguments) = token
  first_token (e.Constant token kind value) = token
  first_token (e.Strings token parts) = token
  first_token (e.Paren token inner) = token
  first_token (e.Null token) = token
  first_token (e.EndOfFile token) = token

  -- that of the first of these, or this one where there are none
  pub first_of : ℕ → ExprList → ℕ
  first_of token e.no_exprs = token
  first_of token (e.more_exprs x rest) = first_token x
