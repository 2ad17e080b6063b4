-- The parts of a text of which the types say something, in the order in which the walk comes to them: expressions, each after its own parts, names
-- of variables, and definitions of functions.
use Rattle.std.specs.Prelude.{ℕ, ◌==◌, Bool, true, false, List, [], ◌∷◌, ◌++◌, Option, Some, None}
use Rattle.std.specs.List.{list_any}
use Rattle.c_syntax.specs.declared.parts.Param.{Param}
use Rattle.c_syntax.specs.declared.parts.ParamName.{ParamName}
use Rattle.c_syntax.specs.ExprTree as e
use Rattle.c_syntax.specs.Words.{ExprTree, ExprList, LinkList, PostfixList, InitialTree, StartTree, DeclarationTree, ForStartTree, StatementTree, EntryList}
use Rattle.c_syntax.specs.Words.{ItemTree, SourceTree}
use Rattle.c_syntax.specs.StatementTree as s
use Rattle.c_syntax.specs.ItemTree as i
use Rattle.c_types_walk.specs.ItemWalk.{listed_params}

pub data Part : Type 0 where
  -- an expression, at its own token
  Expression : (token : ℕ) → Part
  -- a name that stands for the value or the place of a variable
  Use : (token : ℕ) → Part
  -- a name that declares a variable: a global, or a local
  Declared : (global : Bool) (token : ℕ) (name : List ℕ) → Part
  -- the beginning of the definition of a function
  Begins : Part

abbrev mutual
  pub expr_parts : ExprTree → List Part
  expr_parts (e.Comma token operands) = exprs_parts operands ++ Expression token ∷ []
  expr_parts (e.Assign token sign target value) = expr_parts target ++ (expr_parts value ++ Expression token ∷ [])
  expr_parts (e.Conditional token condition first second) = expr_parts condition ++ (expr_parts first ++ (expr_parts second ++ Expression token ∷ []))
  expr_parts (e.Chain level first links) = expr_parts first ++ links_parts links
  expr_parts (e.Cast token b stars operand) = expr_parts operand ++ Expression token ∷ []
  expr_parts (e.Prefix token operator operand) = expr_parts operand ++ Expression token ∷ []
  expr_parts (e.SizeOfType token b stars) = Expression token ∷ []
  expr_parts (e.Postfix primary operators) = expr_parts primary ++ postfix_parts operators
  expr_parts (e.Name token name) = Use token ∷ Expression token ∷ []
  expr_parts (e.Call token name arguments) = exprs_parts arguments ++ Expression token ∷ []
  expr_parts (e.Constant token kind value) = Expression token ∷ []
  expr_parts (e.Strings token parts) = Expression token ∷ []
  expr_parts (e.Paren token inner) = expr_parts inner ++ Expression token ∷ []
  expr_parts (e.Null token) = Expression token ∷ []
  expr_parts (e.EndOfFile token) = Expression token ∷ []

  pub exprs_parts : ExprList → List Part
  exprs_parts e.no_exprs = []
  exprs_parts (e.more_exprs x rest) = expr_parts x ++ exprs_parts rest

  pub links_parts : LinkList → List Part
  links_parts e.no_links = []
  links_parts (e.more_links token sign operand rest) = expr_parts operand ++ Expression token ∷ links_parts rest

  pub postfix_parts : PostfixList → List Part
  postfix_parts e.no_postfix = []
  postfix_parts (e.index token x rest) = expr_parts x ++ Expression token ∷ postfix_parts rest
  postfix_parts (e.member token name rest) = Expression token ∷ postfix_parts rest
  postfix_parts (e.arrow token name rest) = Expression token ∷ postfix_parts rest
  postfix_parts (e.increment token rest) = Expression token ∷ postfix_parts rest
  postfix_parts (e.decrement token rest) = Expression token ∷ postfix_parts rest

abbrev pub optional_parts : Option ExprTree → List Part
optional_parts None = []
optional_parts (Some x) = expr_parts x

-- declarations: a variable comes before its initialiser

abbrev pub initial_parts : Option InitialTree → List Part
initial_parts None = []
initial_parts (Some (s.Value value)) = expr_parts value
initial_parts (Some (s.Braced token items comma)) = exprs_parts items

abbrev pub starts_parts : Bool → List StartTree → List Part
starts_parts global [] = []
starts_parts global (x ∷ xs) = Declared global x.declarator.name_token x.declarator.name ∷ initial_parts x.initial ++ starts_parts global xs

abbrev pub declaration_parts : Bool → DeclarationTree → List Part
declaration_parts global d = starts_parts global d.starts

-- statements

abbrev pub for_start_parts : ForStartTree → List Part
for_start_parts (s.Declares declaration) = declaration_parts false declaration
for_start_parts (s.Computes x) = optional_parts x

abbrev mutual
  pub statement_parts : StatementTree → List Part
  statement_parts (s.Block token entries) = entries_parts entries
  statement_parts (s.Empty token) = []
  statement_parts (s.Expr token x) = expr_parts x
  statement_parts (s.If token condition first) = expr_parts condition ++ statement_parts first
  statement_parts (s.IfElse token condition first second) = expr_parts condition ++ (statement_parts first ++ statement_parts second)
  statement_parts (s.While token condition body) = expr_parts condition ++ statement_parts body
  statement_parts (s.Do token body condition) = statement_parts body ++ expr_parts condition
  statement_parts (s.For token start condition step body) =
      for_start_parts start ++ (optional_parts condition ++ (optional_parts step ++ statement_parts body))
  statement_parts (s.Return token value) = optional_parts value
  statement_parts (s.Break token) = []
  statement_parts (s.Continue token) = []

  pub entries_parts : EntryList → List Part
  entries_parts s.no_entries = []
  entries_parts (s.declared declaration rest) = declaration_parts false declaration ++ entries_parts rest
  entries_parts (s.stated statement rest) = statement_parts statement ++ entries_parts rest

-- items: the parameters of a function are its first locals

abbrev pub named_parts : Option ParamName → List Part
named_parts None = []
named_parts (Some n) = Declared false n.token n.name ∷ []

abbrev pub params_parts : List Param → List Part
params_parts [] = []
params_parts (p ∷ ps) = named_parts p.name ++ params_parts ps

abbrev pub item_parts : ItemTree → List Part
item_parts (i.Struct token tag members) = []
item_parts (i.Function token b stars name ps None) = []
item_parts (i.Function token b stars name ps (Some body)) = Begins ∷ params_parts (listed_params ps) ++ entries_parts body
item_parts (i.Declaration declaration) = declaration_parts true declaration

abbrev pub items_parts : List ItemTree → List Part
items_parts [] = []
items_parts (x ∷ xs) = item_parts x ++ items_parts xs

-- the parts of a text
abbrev pub parts_of : SourceTree → List Part
parts_of t = items_parts t.items

abbrev pub is_expression_at : ℕ → Part → Bool
is_expression_at token (Expression own) = own == token
is_expression_at token part = false

abbrev pub is_variable_at : ℕ → Part → Bool
is_variable_at token (Use own) = own == token
is_variable_at token (Declared global own name) = own == token
is_variable_at token part = false

-- whether it is an expression's own token
abbrev pub has_expression : SourceTree → ℕ → Bool
has_expression t token = list_any (is_expression_at token) (parts_of t)

-- whether a name stands there that declares or names a variable
abbrev pub has_variable : SourceTree → ℕ → Bool
has_variable t token = list_any (is_variable_at token) (parts_of t)
