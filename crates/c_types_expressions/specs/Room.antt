-- How much can still be declared, and how many bytes the strings of an expression have.
use Rattle.std.specs.Prelude.{ℕ, ◌+◌, ◌≤◌, length, sum_by}
use Rattle.c_syntax.specs.Words.{most_tokens, ExprTree, ExprList, LinkList, PostfixList}
use Rattle.c_syntax.specs.ExprTree as e
use Rattle.c_types_expressions.specs.declared.walk.Walk.{Walk}

-- how many variables, functions, structs and definitions of functions there are
abbrev pub things_in : Walk → ℕ
things_in w = length w.variables + length w.functions + length w.structs + length w.definitions

-- So many more things can be declared: then there are no more than a text has tokens. Each global, and each local of the
-- present function, is a variable.
pub record HasRoom (n : ℕ) (w : Walk) : Type 0 where
  pub few : things_in w + n ≤ most_tokens
  pub globals : w.globals ≤ length w.variables
  pub locals : w.locals ≤ length w.variables

-- Of room for so many things at one point, so much is left at a later one. Each global or local that is new is a new variable.
pub record HasRoomLeft (n m : ℕ) (v w : Walk) : Type 0 where
  pub few : things_in w + m ≤ things_in v + n
  pub globals : w.globals + length v.variables ≤ v.globals + length w.variables
  pub locals : w.locals + length v.variables ≤ v.locals + length w.variables

-- how many expressions there are
abbrev pub items_in : ExprList → ℕ
items_in e.no_exprs = 0
items_in (e.more_exprs x rest) = items_in rest + 1

-- how many bytes the strings of an expression have
abbrev mutual
  pub expr_text : ExprTree → ℕ
  expr_text (e.Comma token operands) = exprs_text operands
  expr_text (e.Assign token sign target value) = expr_text target + expr_text value
  expr_text (e.Conditional token condition first second) = expr_text condition + expr_text first + expr_text second
  expr_text (e.Chain level first links) = expr_text first + links_text links
  expr_text (e.Cast token base stars operand) = expr_text operand
  expr_text (e.Prefix token operator operand) = expr_text operand
  expr_text (e.SizeOfType token base stars) = 0
  expr_text (e.Postfix primary operators) = expr_text primary + postfix_text operators
  expr_text (e.Name token name) = 0
  expr_text (e.Call token name arguments) = exprs_text arguments
  expr_text (e.Constant token kind value) = 0
  expr_text (e.Strings token parts) = sum_by length parts
  expr_text (e.Paren token inner) = expr_text inner
  expr_text (e.Null token) = 0
  expr_text (e.EndOfFile token) = 0

  pub exprs_text : ExprList → ℕ
  exprs_text e.no_exprs = 0
  exprs_text (e.more_exprs x rest) = expr_text x + exprs_text rest

  pub links_text : LinkList → ℕ
  links_text e.no_links = 0
  links_text (e.more_links token sign operand rest) = expr_text operand + links_text rest

  pub postfix_text : PostfixList → ℕ
  postfix_text e.no_postfix = 0
  postfix_text (e.index token x rest) = expr_text x + postfix_text rest
  postfix_text (e.member token name rest) = postfix_text rest
  postfix_text (e.arrow token name rest) = postfix_text rest
  postfix_text (e.increment token rest) = postfix_text rest
  postfix_text (e.decrement token rest) = postfix_text rest
