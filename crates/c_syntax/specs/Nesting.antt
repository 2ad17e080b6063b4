-- How deep a tree's parts lie. Each number is counted from the surroundings of the part that it is of.
use Rattle.std.specs.Prelude.{ℕ, ◌+◌, max, List, [], ◌∷◌, length, Option, Some, None}
use Rattle.c_syntax.specs.declared.parts.Declarator.{Declarator}
use Rattle.c_syntax.specs.declared.parts.Members.{Members}
use Rattle.c_syntax.specs.declared.parts.Param.{Param}
use Rattle.c_syntax.specs.declared.parts.ParamName.{ParamName}
use Rattle.c_syntax.specs.declared.parts.Params.{Params}
use Rattle.c_syntax.specs.declared.parts.Params.TheVariants as params
use Rattle.c_syntax.specs.ExprTree as e
use Rattle.c_syntax.specs.ExprTree.{ExprTree, ExprList, LinkList, PostfixList}
use Rattle.c_syntax.specs.StatementTree as s
use Rattle.c_syntax.specs.StatementTree.{InitialTree, StartTree, DeclarationTree, ForStartTree, StatementTree, EntryList}
use Rattle.c_syntax.specs.ItemTree as i
use Rattle.c_syntax.specs.ItemTree.{ItemTree, SourceTree}

abbrev pub deepest_nesting : {A : Type 0} → (A → ℕ) → List A → ℕ
deepest_nesting f [] = 0
deepest_nesting f (x ∷ xs) = max (f x) (deepest_nesting f xs)

abbrev pub optional_nesting : {A : Type 0} → (A → ℕ) → Option A → ℕ
optional_nesting f None = 0
optional_nesting f (Some x) = f x

-- A declarator and a parameter are one deeper for each `*` and each `[` in them.
abbrev pub declarator_nesting : Declarator → ℕ
declarator_nesting d = d.stars + length d.bounds

abbrev pub members_nesting : Members → ℕ
members_nesting m = deepest_nesting declarator_nesting m.declarators

abbrev pub name_nesting : ParamName → ℕ
name_nesting n = optional_nesting (λ b. 1) n.bound

abbrev pub param_nesting : Param → ℕ
param_nesting p = p.stars + optional_nesting name_nesting p.name

abbrev pub params_nesting : Params → ℕ
params_nesting params.Empty = 0
params_nesting params.Void = 0
params_nesting (params.List list) = deepest_nesting param_nesting list

abbrev mutual
  -- What stands within parentheses or brackets, an argument, an operand of a prefix operator or of a cast, the second and third
  -- operand of `? :` and the right side of an assignment are one deeper.
  pub expr_nesting : ExprTree → ℕ
  expr_nesting (e.Comma token operands) = exprs_nesting operands
  expr_nesting (e.Assign token sign target value) = max (expr_nesting target) (1 + expr_nesting value)
  expr_nesting (e.Conditional token condition first second) = max (expr_nesting condition) (1 + max (expr_nesting first) (expr_nesting second))
  expr_nesting (e.Chain level first links) = max (expr_nesting first) (links_nesting links)
  expr_nesting (e.Cast token base stars operand) = max stars (1 + expr_nesting operand)
  expr_nesting (e.Prefix token operator operand) = 1 + expr_nesting operand
  expr_nesting (e.SizeOfType token base stars) = stars
  expr_nesting (e.Postfix primary operators) = max (expr_nesting primary) (postfix_nesting operators)
  expr_nesting (e.Name token name) = 0
  expr_nesting (e.Call token name arguments) = arguments_nesting arguments
  expr_nesting (e.Constant token kind value) = 0
  expr_nesting (e.Strings token parts) = 0
  expr_nesting (e.Paren token inner) = 1 + expr_nesting inner
  expr_nesting (e.Null token) = 0
  expr_nesting (e.EndOfFile token) = 0

  pub exprs_nesting : ExprList → ℕ
  exprs_nesting e.no_exprs = 0
  exprs_nesting (e.more_exprs x rest) = max (expr_nesting x) (exprs_nesting rest)

  -- each one deeper; none where there are none
  pub arguments_nesting : ExprList → ℕ
  arguments_nesting e.no_exprs = 0
  arguments_nesting (e.more_exprs x rest) = max (1 + expr_nesting x) (arguments_nesting rest)

  pub links_nesting : LinkList → ℕ
  links_nesting e.no_links = 0
  links_nesting (e.more_links token sign operand rest) = max (expr_nesting operand) (links_nesting rest)

  pub postfix_nesting : PostfixList → ℕ
  postfix_nesting e.no_postfix = 0
  postfix_nesting (e.index token x rest) = max (1 + expr_nesting x) (postfix_nesting rest)
  postfix_nesting (e.member token name rest) = postfix_nesting rest
  postfix_nesting (e.arrow token name rest) = postfix_nesting rest
  postfix_nesting (e.increment token rest) = postfix_nesting rest
  postfix_nesting (e.decrement token rest) = postfix_nesting rest

-- An item of a braced list is one deeper than an expression in its place.
abbrev pub initial_nesting : InitialTree → ℕ
initial_nesting (s.Value value) = expr_nesting value
initial_nesting (s.Braced token items comma) = arguments_nesting items

-- `by` is how much deeper the initialisers are than their declaration: 1 for a global, else 0
abbrev pub start_nesting : ℕ → StartTree → ℕ
start_nesting by x = max (declarator_nesting x.declarator) (optional_nesting (λ y. by + initial_nesting y) x.initial)

abbrev pub declaration_nesting : ℕ → DeclarationTree → ℕ
declaration_nesting by d = deepest_nesting (start_nesting by) d.starts

-- A declaration within a `for` is one deeper than the statement, an expression isn't.
abbrev pub for_start_nesting : ForStartTree → ℕ
for_start_nesting (s.Declares declaration) = 1 + declaration_nesting 0 declaration
for_start_nesting (s.Computes x) = optional_nesting expr_nesting x

abbrev mutual
  -- What stands in a statement, other than its own expressions, is one deeper.
  pub statement_nesting : StatementTree → ℕ
  statement_nesting (s.Block token entries) = entries_nesting entries
  statement_nesting (s.Empty token) = 0
  statement_nesting (s.Expr token x) = expr_nesting x
  statement_nesting (s.If token condition first) = max (expr_nesting condition) (1 + statement_nesting first)
  statement_nesting (s.IfElse token condition first second) = max (expr_nesting condition) (1 + max (statement_nesting first) (statement_nesting second))
  statement_nesting (s.While token condition body) = max (expr_nesting condition) (1 + statement_nesting body)
  statement_nesting (s.Do token body condition) = max (1 + statement_nesting body) (expr_nesting condition)
  statement_nesting (s.For token start condition step body) =
      max (for_start_nesting start) (max (optional_nesting expr_nesting condition) (max (optional_nesting expr_nesting step) (1 + statement_nesting body)))
  statement_nesting (s.Return token value) = optional_nesting expr_nesting value
  statement_nesting (s.Break token) = 0
  statement_nesting (s.Continue token) = 0

  -- each one deeper; none where there are none
  pub entries_nesting : EntryList → ℕ
  entries_nesting s.no_entries = 0
  entries_nesting (s.declared declaration rest) = max (1 + declaration_nesting 0 declaration) (entries_nesting rest)
  entries_nesting (s.stated statement rest) = max (1 + statement_nesting statement) (entries_nesting rest)

abbrev pub item_nesting : ItemTree → ℕ
item_nesting (i.Struct token tag members) = deepest_nesting members_nesting members
item_nesting (i.Function token base stars name ps body) = max stars (max (params_nesting ps) (optional_nesting entries_nesting body))
item_nesting (i.Declaration declaration) = declaration_nesting 1 declaration

-- the nesting of a tree's deepest part
abbrev pub tree_nesting : SourceTree → ℕ
tree_nesting t = deepest_nesting item_nesting t.items
