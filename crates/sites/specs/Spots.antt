-- What expressions hold for sites, in the order of the tokens: the constructs at which sites may stand, and the constants. An operand of
-- `sizeof` holds nothing, since it isn't evaluated (C99 6.5.3.4p2).
use Rattle.std.specs.Prelude.{ℕ, Bool, true, false, if◌then◌else◌, List, [], ◌∷◌, ◌++◌, Option, Some, None}
use Rattle.c_syntax.specs.declared.token.Sign.{Sign}
use Rattle.c_syntax.specs.declared.token.Sign.TheVariants as sign
use Rattle.c_syntax.specs.declared.expr.PrefixOperator.{PrefixOperator}
use Rattle.c_syntax.specs.declared.expr.PrefixOperator.TheVariants as prefix
use Rattle.c_syntax.specs.ExprTree as e
use Rattle.c_syntax.specs.ExprTree.{ExprTree, ExprList, LinkList, PostfixList}
use Rattle.flow.specs.declared.site.BranchWord.{BranchWord}
use Rattle.flow.specs.declared.site.BranchWord.TheVariants.{Question, AndAnd, OrOr}
use Rattle.sites.specs.declared.spots.Spot.{Spot}
use Rattle.sites.specs.declared.spots.Spot.TheVariants as spot

-- the token of a variable that is named directly, not within parentheses
abbrev pub named_token : ExprTree → Option ℕ
named_token (e.Name token name) = Some token
named_token x = None

-- a new value of the variable, if one is named
abbrev pub change_spots : ℕ → Option ℕ → List Spot
change_spots token None = []
change_spots token (Some target) = spot.Change token target ∷ []

abbrev pub is_step : PrefixOperator → Bool
is_step prefix.Increment = true
is_step prefix.Decrement = true
is_step operator = false

abbrev pub is_sizeof : PrefixOperator → Bool
is_sizeof prefix.SizeOf = true
is_sizeof operator = false

-- `++` and `--` before a variable give it a new value
abbrev pub stepped_spots : PrefixOperator → ℕ → Option ℕ → List Spot
stepped_spots operator token target = if is_step operator then change_spots token target else []

-- `&&` and `||` are branches
abbrev pub branch_of_sign : Sign → Option BranchWord
branch_of_sign sign.AndAnd = Some AndAnd
branch_of_sign sign.OrOr = Some OrOr
branch_of_sign s = None

abbrev pub branch_spots : ℕ → Option BranchWord → List Spot
branch_spots token None = []
branch_spots token (Some word) = spot.Branch token word ∷ []

abbrev pub joined_spots : ℕ → Sign → List Spot
joined_spots token s = branch_spots token (branch_of_sign s)

abbrev mutual
  pub expr_spots : ExprTree → List Spot
  expr_spots (e.Comma token operands) = exprs_spots operands
  expr_spots (e.Assign token s target value) = expr_spots target ++ change_spots token (named_token target) ++ expr_spots value
  expr_spots (e.Conditional token condition first second) = expr_spots condition ++ spot.Branch token Question ∷ expr_spots first ++ expr_spots second
  expr_spots (e.Chain level first links) = expr_spots first ++ links_spots links
  expr_spots (e.Cast token b stars operand) = expr_spots operand
  expr_spots (e.Prefix token operator operand) = if is_sizeof operator then [] else stepped_spots operator token (named_token operand) ++ expr_spots operand
  expr_spots (e.SizeOfType token b stars) = []
  expr_spots (e.Postfix primary operators) = expr_spots primary ++ postfix_spots (named_token primary) operators
  expr_spots (e.Name token name) = []
  expr_spots (e.Call token name arguments) = spot.Call token name ∷ exprs_spots arguments
  expr_spots (e.Constant token kind value) = spot.Constant value ∷ []
  expr_spots (e.Strings token parts) = []
  expr_spots (e.Paren token inner) = expr_spots inner
  expr_spots (e.Null token) = []
  expr_spots (e.EndOfFile token) = []

  pub exprs_spots : ExprList → List Spot
  exprs_spots e.no_exprs = []
  exprs_spots (e.more_exprs x rest) = expr_spots x ++ exprs_spots rest

  pub links_spots : LinkList → List Spot
  links_spots e.no_links = []
  links_spots (e.more_links token s operand rest) = joined_spots token s ++ expr_spots operand ++ links_spots rest

  -- the operators behind an operand, which is a variable named directly at the token, if at any
  pub postfix_spots : Option ℕ → PostfixList → List Spot
  postfix_spots target e.no_postfix = []
  postfix_spots target (e.index token x rest) = expr_spots x ++ postfix_spots None rest
  postfix_spots target (e.member token name rest) = postfix_spots None rest
  postfix_spots target (e.arrow token name rest) = postfix_spots None rest
  postfix_spots target (e.increment token rest) = change_spots token target ++ postfix_spots None rest
  postfix_spots target (e.decrement token rest) = change_spots token target ++ postfix_spots None rest

-- an expression that may be left out
abbrev pub part_spots : Option ExprTree → List Spot
part_spots None = []
part_spots (Some x) = expr_spots x
