-- The tokens of a tree: those of its grammar's rules, in order.
use Rattle.std.specs.Prelude.{ℕ, ℤ, if◌then◌else◌, Bool, List, [], ◌∷◌, ◌++◌, map, Option, Some, None, replicate}
use Rattle.std.specs.List.{flat_map}
use Rattle.cbi_base.specs.declared.scalar.Kind.{Kind}
use Rattle.c_syntax.specs.declared.token.Sign.{Sign}
use Rattle.c_syntax.specs.declared.token.Sign.TheVariants as sign
use Rattle.c_syntax.specs.declared.token.Word.{Word}
use Rattle.c_syntax.specs.declared.token.Word.TheVariants as word
use Rattle.c_syntax.specs.declared.token.TokenKind.{TokenKind}
use Rattle.c_syntax.specs.declared.token.TokenKind.TheVariants as kind
use Rattle.c_syntax.specs.declared.parts.Base.{Base}
use Rattle.c_syntax.specs.declared.parts.Base.TheVariants as base
use Rattle.c_syntax.specs.declared.parts.Bound.{Bound}
use Rattle.c_syntax.specs.declared.parts.Constant.{Constant}
use Rattle.c_syntax.specs.declared.parts.Declarator.{Declarator}
use Rattle.c_syntax.specs.declared.parts.Members.{Members}
use Rattle.c_syntax.specs.declared.parts.Param.{Param}
use Rattle.c_syntax.specs.declared.parts.ParamName.{ParamName}
use Rattle.c_syntax.specs.declared.parts.Params.{Params}
use Rattle.c_syntax.specs.declared.parts.Params.TheVariants as params
use Rattle.c_syntax.specs.declared.expr.PrefixOperator.{PrefixOperator}
use Rattle.c_syntax.specs.declared.expr.PrefixOperator.TheVariants as prefix
use Rattle.c_syntax.specs.ExprTree as e
use Rattle.c_syntax.specs.ExprTree.{ExprTree, ExprList, LinkList, PostfixList}
use Rattle.c_syntax.specs.StatementTree as s
use Rattle.c_syntax.specs.StatementTree.{InitialTree, StartTree, DeclarationTree, ForStartTree, StatementTree, EntryList}
use Rattle.c_syntax.specs.ItemTree as i
use Rattle.c_syntax.specs.ItemTree.{ItemTree, SourceTree}

abbrev pub Kinds : Type 0
Kinds = List TokenKind

abbrev pub a_sign : Sign → Kinds
a_sign x = kind.Punctuator x ∷ []

abbrev pub a_word : Word → Kinds
a_word x = kind.Word x ∷ []

abbrev pub a_name : List ℕ → Kinds
a_name x = kind.Name x ∷ []

abbrev pub a_constant : Kind → ℤ → Kinds
a_constant k v = kind.Constant k v ∷ []

abbrev pub optional_kinds : {A : Type 0} → (A → Kinds) → Option A → Kinds
optional_kinds f None = []
optional_kinds f (Some x) = f x

-- each with a comma before it
abbrev pub after_commas : {A : Type 0} → (A → Kinds) → List A → Kinds
after_commas f xs = flat_map (λ x. a_sign sign.Comma ++ f x) xs

-- with commas between them
abbrev pub with_commas : {A : Type 0} → (A → Kinds) → List A → Kinds
with_commas f [] = []
with_commas f (x ∷ xs) = f x ++ after_commas f xs

abbrev pub star_kinds : ℕ → Kinds
star_kinds n = replicate n (kind.Punctuator sign.Star)

abbrev pub int_kinds : Bool → Kinds
int_kinds int = if int then a_word word.Int else []

abbrev pub base_kinds : Base → Kinds
base_kinds (base.Void token) = a_word word.Void
base_kinds (base.Char token) = a_word word.Char
base_kinds (base.Int token) = a_word word.Int
base_kinds (base.Unsigned token int) = a_word word.Unsigned ++ int_kinds int
base_kinds (base.Struct token tag) = a_word word.Struct ++ a_name tag

-- a base with stars, as in a cast
abbrev pub type_kinds : Base → ℕ → Kinds
type_kinds b stars = base_kinds b ++ star_kinds stars

abbrev pub constant_kinds : Constant → Kinds
constant_kinds c = a_constant c.kind c.value

abbrev pub bound_kinds : Bound → Kinds
bound_kinds b = a_sign sign.LeftBracket ++ optional_kinds constant_kinds b.length ++ a_sign sign.RightBracket

abbrev pub declarator_kinds : Declarator → Kinds
declarator_kinds d = star_kinds d.stars ++ a_name d.name ++ flat_map bound_kinds d.bounds

abbrev pub members_kinds : Members → Kinds
members_kinds m = base_kinds m.base ++ with_commas declarator_kinds m.declarators ++ a_sign sign.Semicolon

abbrev pub param_name_kinds : ParamName → Kinds
param_name_kinds n = a_name n.name ++ optional_kinds bound_kinds n.bound

abbrev pub param_kinds : Param → Kinds
param_kinds p = type_kinds p.base p.stars ++ optional_kinds param_name_kinds p.name

abbrev pub params_kinds : Params → Kinds
params_kinds params.Empty = []
params_kinds params.Void = a_word word.Void
params_kinds (params.List list) = with_commas param_kinds list

-- the token of a prefix operator
abbrev pub prefix_kind : PrefixOperator → TokenKind
prefix_kind prefix.Increment = kind.Punctuator sign.PlusPlus
prefix_kind prefix.Decrement = kind.Punctuator sign.MinusMinus
prefix_kind prefix.SizeOf = kind.Word word.Sizeof
prefix_kind prefix.Address = kind.Punctuator sign.Ampersand
prefix_kind prefix.Indirection = kind.Punctuator sign.Star
prefix_kind prefix.Plus = kind.Punctuator sign.Plus
prefix_kind prefix.Minus = kind.Punctuator sign.Minus
prefix_kind prefix.Complement = kind.Punctuator sign.Tilde
prefix_kind prefix.Not = kind.Punctuator sign.Exclamation

abbrev pub prefix_kinds : PrefixOperator → Kinds
prefix_kinds operator = prefix_kind operator ∷ []

-- the prefix operator that a token is before its operand
abbrev pub prefix_of : TokenKind → Option PrefixOperator
prefix_of (kind.Punctuator sign.PlusPlus) = Some prefix.Increment
prefix_of (kind.Punctuator sign.MinusMinus) = Some prefix.Decrement
prefix_of (kind.Word word.Sizeof) = Some prefix.SizeOf
prefix_of (kind.Punctuator sign.Ampersand) = Some prefix.Address
prefix_of (kind.Punctuator sign.Star) = Some prefix.Indirection
prefix_of (kind.Punctuator sign.Plus) = Some prefix.Plus
prefix_of (kind.Punctuator sign.Minus) = Some prefix.Minus
prefix_of (kind.Punctuator sign.Tilde) = Some prefix.Complement
prefix_of (kind.Punctuator sign.Exclamation) = Some prefix.Not
prefix_of _ = None

abbrev pub text_kinds : List (List ℕ) → Kinds
text_kinds parts = map (λ bytes. kind.Text bytes) parts

abbrev pub parenthesized_kinds : Kinds → Kinds
parenthesized_kinds inner = a_sign sign.LeftParen ++ inner ++ a_sign sign.RightParen

abbrev mutual
  pub expr_kinds : ExprTree → Kinds
  expr_kinds (e.Comma token operands) = exprs_kinds operands
  expr_kinds (e.Assign token x target value) = expr_kinds target ++ a_sign x ++ expr_kinds value
  expr_kinds (e.Conditional token condition first second) =
      expr_kinds condition ++ a_sign sign.Question ++ expr_kinds first ++ a_sign sign.Colon ++ expr_kinds second
  expr_kinds (e.Chain level first links) = expr_kinds first ++ link_kinds links
  expr_kinds (e.Cast token b stars operand) = parenthesized_kinds (type_kinds b stars) ++ expr_kinds operand
  expr_kinds (e.Prefix token operator operand) = prefix_kinds operator ++ expr_kinds operand
  expr_kinds (e.SizeOfType token b stars) = a_word word.Sizeof ++ parenthesized_kinds (type_kinds b stars)
  expr_kinds (e.Postfix primary operators) = expr_kinds primary ++ postfix_kinds operators
  expr_kinds (e.Name token name) = a_name name
  expr_kinds (e.Call token name arguments) = a_name name ++ parenthesized_kinds (exprs_kinds arguments)
  expr_kinds (e.Constant token k value) = a_constant k value
  expr_kinds (e.Strings token parts) = text_kinds parts
  expr_kinds (e.Paren token inner) = parenthesized_kinds (expr_kinds inner)
  expr_kinds (e.Null token) = a_word word.Null
  expr_kinds (e.EndOfFile token) = a_word word.EndOfFile

  -- with commas between them
  pub exprs_kinds : ExprList → Kinds
  exprs_kinds e.no_exprs = []
  exprs_kinds (e.more_exprs x rest) = expr_kinds x ++ more_exprs_kinds rest

  -- each with a comma before it
  pub more_exprs_kinds : ExprList → Kinds
  more_exprs_kinds e.no_exprs = []
  more_exprs_kinds (e.more_exprs x rest) = a_sign sign.Comma ++ expr_kinds x ++ more_exprs_kinds rest

  pub link_kinds : LinkList → Kinds
  link_kinds e.no_links = []
  link_kinds (e.more_links token x operand rest) = a_sign x ++ expr_kinds operand ++ link_kinds rest

  pub postfix_kinds : PostfixList → Kinds
  postfix_kinds e.no_postfix = []
  postfix_kinds (e.index token x rest) = a_sign sign.LeftBracket ++ expr_kinds x ++ a_sign sign.RightBracket ++ postfix_kinds rest
  postfix_kinds (e.member token name rest) = a_sign sign.Dot ++ a_name name ++ postfix_kinds rest
  postfix_kinds (e.arrow token name rest) = a_sign sign.Arrow ++ a_name name ++ postfix_kinds rest
  postfix_kinds (e.increment token rest) = a_sign sign.PlusPlus ++ postfix_kinds rest
  postfix_kinds (e.decrement token rest) = a_sign sign.MinusMinus ++ postfix_kinds rest

abbrev pub braced_kinds : Kinds → Kinds
braced_kinds inner = a_sign sign.LeftBrace ++ inner ++ a_sign sign.RightBrace

abbrev pub comma_kinds : Bool → Kinds
comma_kinds comma = if comma then a_sign sign.Comma else []

abbrev pub initial_kinds : InitialTree → Kinds
initial_kinds (s.Value value) = expr_kinds value
initial_kinds (s.Braced token items comma) = braced_kinds (exprs_kinds items ++ comma_kinds comma)

abbrev pub start_kinds : StartTree → Kinds
start_kinds x = declarator_kinds x.declarator ++ optional_kinds (λ y. a_sign sign.Equal ++ initial_kinds y) x.initial

abbrev pub declaration_kinds : DeclarationTree → Kinds
declaration_kinds d = base_kinds d.base ++ with_commas start_kinds d.starts ++ a_sign sign.Semicolon

abbrev pub for_start_kinds : ForStartTree → Kinds
for_start_kinds (s.Declares declaration) = declaration_kinds declaration
for_start_kinds (s.Computes x) = optional_kinds expr_kinds x ++ a_sign sign.Semicolon

abbrev mutual
  pub statement_kinds : StatementTree → Kinds
  statement_kinds (s.Block token entries) = braced_kinds (entry_kinds entries)
  statement_kinds (s.Empty token) = a_sign sign.Semicolon
  statement_kinds (s.Expr token x) = expr_kinds x ++ a_sign sign.Semicolon
  statement_kinds (s.If token condition first) = a_word word.If ++ parenthesized_kinds (expr_kinds condition) ++ statement_kinds first
  statement_kinds (s.IfElse token condition first second) =
      a_word word.If ++ parenthesized_kinds (expr_kinds condition) ++ statement_kinds first ++ a_word word.Else ++ statement_kinds second
  statement_kinds (s.While token condition body) = a_word word.While ++ parenthesized_kinds (expr_kinds condition) ++ statement_kinds body
  statement_kinds (s.Do token body condition) =
      a_word word.Do ++ statement_kinds body ++ a_word word.While ++ parenthesized_kinds (expr_kinds condition) ++ a_sign sign.Semicolon
  statement_kinds (s.For token start condition step body) =
      a_word word.For ++ parenthesized_kinds (for_start_kinds start ++ optional_kinds expr_kinds condition ++ a_sign sign.Semicolon
      ++ optional_kinds expr_kinds step) ++
      statement_kinds body
  statement_kinds (s.Return token value) = a_word word.Return ++ optional_kinds expr_kinds value ++ a_sign sign.Semicolon
  statement_kinds (s.Break token) = a_word word.Break ++ a_sign sign.Semicolon
  statement_kinds (s.Continue token) = a_word word.Continue ++ a_sign sign.Semicolon

  pub entry_kinds : EntryList → Kinds
  entry_kinds s.no_entries = []
  entry_kinds (s.declared declaration rest) = declaration_kinds declaration ++ entry_kinds rest
  entry_kinds (s.stated statement rest) = statement_kinds statement ++ entry_kinds rest

-- a body, or a semicolon where there is none
abbrev pub body_kinds : Option EntryList → Kinds
body_kinds None = a_sign sign.Semicolon
body_kinds (Some entries) = braced_kinds (entry_kinds entries)

abbrev pub item_kinds : ItemTree → Kinds
item_kinds (i.Struct token tag members) = a_word word.Struct ++ a_name tag ++ braced_kinds (flat_map members_kinds members) ++ a_sign sign.Semicolon
item_kinds (i.Function token b stars name ps body) = type_kinds b stars ++ a_name name ++ parenthesized_kinds (params_kinds ps) ++ body_kinds body
item_kinds (i.Declaration declaration) = declaration_kinds declaration

-- the tokens of a tree
abbrev pub tree_kinds : SourceTree → Kinds
tree_kinds t = flat_map item_kinds t.items
