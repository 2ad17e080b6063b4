-- What stands in a text, in the order in which the walk comes to it: an expression comes behind its parts, and a variable before its initialiser.
use Rattle.std.specs.Prelude.{ℕ, ◌+◌, ◌==◌, Bool, true, false, if◌then◌else◌, List, [], ◌∷◌, ◌++◌, length, Option, Some, None}
use Rattle.std.specs.List.{list_any}
use Rattle.c_syntax.specs.declared.parts.Param.{Param}
use Rattle.c_syntax.specs.declared.parts.ParamName.{ParamName}
use Rattle.c_syntax.specs.ExprTree as e
use Rattle.c_syntax.specs.Words.{ExprTree, ExprList, LinkList, PostfixList, InitialTree, StartTree, DeclarationTree, ForStartTree, StatementTree, EntryList}
use Rattle.c_syntax.specs.Words.{ItemTree, SourceTree, declarator_kinds}
use Rattle.c_syntax.specs.StatementTree as s
use Rattle.c_syntax.specs.ItemTree as i
use Rattle.c_types_walk.specs.ItemWalk.{listed_params}
use Rattle.c_meaning.specs.Trees.{token_of}

-- what an expression is
pub data Construct : Type 0 where
  -- a call of the function with this name
  Calls : (name : List ℕ) → Construct
  -- a member of what has its own token there, by `.`, or by `->` where it is `behind` a pointer
  Selects : (operand : ℕ) (behind : Bool) (name : List ℕ) → Construct
  Other : Construct

pub data Event : Type 0 where
  -- an expression, at its own token
  Value : (token : ℕ) (construct : Construct) → Event
  -- the `=` before an expression that is an initialiser
  Initialises : (token : ℕ) → Event
  -- a name that declares a variable
  Variable : (token : ℕ) → Event
  -- the beginning and the end of a block, of a `for`, and of a function's parameters and body
  Opens : Event
  Closes : Event
  -- a struct
  Struct : Event
  -- the name of a function that is declared, and the end of its definition
  Names : (name : List ℕ) → Event
  Defines : Event

abbrev mutual
  pub expr_events : ExprTree → List Event
  expr_events (e.Comma token operands) = exprs_events operands ++ Value token Other ∷ []
  expr_events (e.Assign token sign target value) = expr_events target ++ (expr_events value ++ Value token Other ∷ [])
  expr_events (e.Conditional token condition first second) =
      expr_events condition ++ (expr_events first ++ (expr_events second ++ Value token Other ∷ []))
  expr_events (e.Chain level first links) = expr_events first ++ links_events links
  expr_events (e.Cast token b stars operand) = expr_events operand ++ Value token Other ∷ []
  expr_events (e.Prefix token operator operand) = expr_events operand ++ Value token Other ∷ []
  expr_events (e.SizeOfType token b stars) = Value token Other ∷ []
  expr_events (e.Postfix primary operators) = expr_events primary ++ postfix_events (token_of primary) operators
  expr_events (e.Name token name) = Value token Other ∷ []
  expr_events (e.Call token name arguments) = exprs_events arguments ++ Value token (Calls name) ∷ []
  expr_events (e.Constant token kind value) = Value token Other ∷ []
  expr_events (e.Strings token parts) = Value token Other ∷ []
  expr_events (e.Paren token inner) = expr_events inner ++ Value token Other ∷ []
  expr_events (e.Null token) = Value token Other ∷ []
  expr_events (e.EndOfFile token) = Value token Other ∷ []

  pub exprs_events : ExprList → List Event
  exprs_events e.no_exprs = []
  exprs_events (e.more_exprs x rest) = expr_events x ++ exprs_events rest

  pub links_events : LinkList → List Event
  links_events e.no_links = []
  links_events (e.more_links token sign operand rest) = expr_events operand ++ Value token Other ∷ links_events rest

  -- the operators behind an operand with this own token
  pub postfix_events : ℕ → PostfixList → List Event
  postfix_events operand e.no_postfix = []
  postfix_events operand (e.index token x rest) = expr_events x ++ Value token Other ∷ postfix_events token rest
  postfix_events operand (e.member token name rest) = Value token (Selects operand false name) ∷ postfix_events token rest
  postfix_events operand (e.arrow token name rest) = Value token (Selects operand true name) ∷ postfix_events token rest
  postfix_events operand (e.increment token rest) = Value token Other ∷ postfix_events token rest
  postfix_events operand (e.decrement token rest) = Value token Other ∷ postfix_events token rest

abbrev pub optional_events : Option ExprTree → List Event
optional_events None = []
optional_events (Some x) = expr_events x

-- an initialiser, whose `=` is this token
abbrev pub initial_events : ℕ → Option InitialTree → List Event
initial_events equal None = []
initial_events equal (Some (s.Value value)) = Initialises equal ∷ expr_events value
initial_events equal (Some (s.Braced token items comma)) = exprs_events items

abbrev pub start_events : StartTree → List Event
start_events x =
    Variable x.declarator.name_token ∷ initial_events (x.declarator.token + length (declarator_kinds x.declarator)) x.initial

abbrev pub starts_events : List StartTree → List Event
starts_events [] = []
starts_events (x ∷ xs) = start_events x ++ starts_events xs

abbrev pub declaration_events : DeclarationTree → List Event
declaration_events d = starts_events d.starts

abbrev pub for_start_events : ForStartTree → List Event
for_start_events (s.Declares declaration) = declaration_events declaration
for_start_events (s.Computes x) = optional_events x

abbrev pub scope_events : List Event → List Event
scope_events events = Opens ∷ events ++ Closes ∷ []

abbrev mutual
  pub statement_events : StatementTree → List Event
  statement_events (s.Block token entries) = scope_events (entries_events entries)
  statement_events (s.Empty token) = []
  statement_events (s.Expr token x) = expr_events x
  statement_events (s.If token condition first) = expr_events condition ++ statement_events first
  statement_events (s.IfElse token condition first second) = expr_events condition ++ (statement_events first ++ statement_events second)
  statement_events (s.While token condition body) = expr_events condition ++ statement_events body
  statement_events (s.Do token body condition) = statement_events body ++ expr_events condition
  statement_events (s.For token start condition step body) =
      scope_events (for_start_events start ++ (optional_events condition ++ (optional_events step ++ statement_events body)))
  statement_events (s.Return token value) = optional_events value
  statement_events (s.Break token) = []
  statement_events (s.Continue token) = []

  pub entries_events : EntryList → List Event
  entries_events s.no_entries = []
  entries_events (s.declared declaration rest) = declaration_events declaration ++ entries_events rest
  entries_events (s.stated statement rest) = statement_events statement ++ entries_events rest

abbrev pub named_events : Option ParamName → List Event
named_events None = []
named_events (Some n) = Variable n.token ∷ []

abbrev pub params_events : List Param → List Event
params_events [] = []
params_events (p ∷ ps) = named_events p.name ++ params_events ps

abbrev pub item_events : ItemTree → List Event
item_events (i.Struct token tag members) = Struct ∷ []
item_events (i.Function token b stars name ps None) = Names name ∷ []
item_events (i.Function token b stars name ps (Some body)) =
    Names name ∷ scope_events (params_events (listed_params ps) ++ entries_events body) ++ Defines ∷ []
item_events (i.Declaration declaration) = declaration_events declaration

abbrev pub items_events : List ItemTree → List Event
items_events [] = []
items_events (x ∷ xs) = item_events x ++ items_events xs

abbrev pub events_of : SourceTree → List Event
events_of t = items_events t.items

-- the expression whose own token it is
abbrev pub construct_at : ℕ → List Event → Option Construct
construct_at token [] = None
construct_at token (Value own construct ∷ rest) = if own == token then Some construct else construct_at token rest
construct_at token (event ∷ rest) = construct_at token rest

abbrev pub is_point_at : ℕ → Event → Bool
is_point_at token (Value own construct) = own == token
is_point_at token (Initialises own) = own == token
is_point_at token event = false

-- whether an expression has its own token there, or an initialiser its `=`
abbrev pub is_point : SourceTree → ℕ → Bool
is_point t token = list_any (is_point_at token) (events_of t)
