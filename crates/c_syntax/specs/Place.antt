-- Each part's `token` is the index of its own token in the tree's list: the operator's for an operator, of `[`, `.` or `->` for a postfix,
-- the name's for a call, that of the first comma for a comma expression, and else the first one. `at` is the index of a part's first token.
use Rattle.std.specs.Prelude.{◌≡◌, ℕ, ◌+◌, List, [], ◌∷◌, length, IfSome}
use Rattle.c_syntax.specs.declared.parts.Base.{Base}
use Rattle.c_syntax.specs.declared.parts.Base.TheVariants as base
use Rattle.c_syntax.specs.declared.parts.Declarator.{Declarator}
use Rattle.c_syntax.specs.declared.parts.Members.{Members}
use Rattle.c_syntax.specs.declared.parts.Param.{Param}
use Rattle.c_syntax.specs.declared.parts.ParamName.{ParamName}
use Rattle.c_syntax.specs.declared.parts.Params.{Params}
use Rattle.c_syntax.specs.declared.parts.Params.TheVariants as params
use Rattle.c_syntax.specs.ExprTree as e
use Rattle.c_syntax.specs.ExprTree.{ExprTree, ExprList, LinkList, PostfixList}
use Rattle.c_syntax.specs.StatementTree as s
use Rattle.c_syntax.specs.StatementTree.{InitialTree, StartTree, DeclarationTree, ForStartTree, StatementTree, EntryList}
use Rattle.c_syntax.specs.ItemTree as i
use Rattle.c_syntax.specs.ItemTree.{ItemTree}
use Rattle.c_syntax.specs.Spelling.{Kinds, optional_kinds, base_kinds, type_kinds, declarator_kinds, members_kinds, param_kinds, params_kinds, expr_kinds}
use Rattle.c_syntax.specs.Spelling.{start_kinds, declaration_kinds, for_start_kinds, statement_kinds}

-- parts one after another, with `gap` tokens between two of them
abbrev pub EachAt : {A : Type 0} → (ℕ → A → Type 0) → (A → Kinds) → (gap at : ℕ) → List A → Type 0
EachAt IsAt kinds gap at [] = Unit {0}
EachAt IsAt kinds gap at (x ∷ xs) = IsAt at x × EachAt IsAt kinds gap (at + length (kinds x) + gap) xs

abbrev pub base_token : Base → ℕ
base_token (base.Void token) = token
base_token (base.Char token) = token
base_token (base.Int token) = token
base_token (base.Unsigned token int) = token
base_token (base.Struct token tag) = token

abbrev pub BaseAt : ℕ → Base → Type 0
BaseAt at b = base_token b ≡ at

abbrev pub DeclaratorAt : ℕ → Declarator → Type 0
DeclaratorAt at d = (d.token ≡ at) × (d.name_token ≡ at + d.stars)

abbrev pub MembersAt : ℕ → Members → Type 0
MembersAt at m = (m.token ≡ at) × BaseAt at m.base × EachAt DeclaratorAt declarator_kinds 1 (at + length (base_kinds m.base)) m.declarators

abbrev pub NameAt : ℕ → ParamName → Type 0
NameAt at n = n.token ≡ at

abbrev pub ParamAt : ℕ → Param → Type 0
ParamAt at p = (p.token ≡ at) × BaseAt at p.base × IfSome p.name (NameAt (at + length (type_kinds p.base p.stars)))

abbrev pub ParamsAt : ℕ → Params → Type 0
ParamsAt at params.Empty = Unit {0}
ParamsAt at params.Void = Unit {0}
ParamsAt at (params.List list) = EachAt ParamAt param_kinds 1 at list

-- the index of the comma behind the first of several expressions
abbrev pub first_comma : ℕ → ExprList → ℕ
first_comma at e.no_exprs = at
first_comma at (e.more_exprs x rest) = at + length (expr_kinds x)

abbrev mutual
  pub ExprAt : ℕ → ExprTree → Type 0
  ExprAt at (e.Comma token operands) = (token ≡ first_comma at operands) × ExprsAt at operands
  ExprAt at (e.Assign token x target value) = (token ≡ at + length (expr_kinds target)) × ExprAt at target × ExprAt (token + 1) value
  ExprAt at (e.Conditional token condition first second) =
      (token ≡ at + length (expr_kinds condition)) × ExprAt at condition × ExprAt (token + 1) first × ExprAt (token + 1 + length (expr_kinds first) + 1) second
  ExprAt at (e.Chain level first links) = ExprAt at first × LinksAt (at + length (expr_kinds first)) links
  ExprAt at (e.Cast token b stars operand) = (token ≡ at) × BaseAt (at + 1) b × ExprAt (at + 1 + length (type_kinds b stars) + 1) operand
  ExprAt at (e.Prefix token operator operand) = (token ≡ at) × ExprAt (at + 1) operand
  ExprAt at (e.SizeOfType token b stars) = (token ≡ at) × BaseAt (at + 2) b
  ExprAt at (e.Postfix primary operators) = ExprAt at primary × PostfixAt (at + length (expr_kinds primary)) operators
  ExprAt at (e.Name token name) = token ≡ at
  ExprAt at (e.Call token name arguments) = (token ≡ at) × ExprsAt (at + 2) arguments
  ExprAt at (e.Constant token kind value) = token ≡ at
  ExprAt at (e.Strings token parts) = token ≡ at
  ExprAt at (e.Paren token inner) = (token ≡ at) × ExprAt (at + 1) inner
  ExprAt at (e.Null token) = token ≡ at
  ExprAt at (e.EndOfFile token) = token ≡ at

  pub ExprsAt : ℕ → ExprList → Type 0
  ExprsAt at e.no_exprs = Unit {0}
  ExprsAt at (e.more_exprs x rest) = ExprAt at x × ExprsAt (at + length (expr_kinds x) + 1) rest

  pub LinksAt : ℕ → LinkList → Type 0
  LinksAt at e.no_links = Unit {0}
  LinksAt at (e.more_links token x operand rest) = (token ≡ at) × ExprAt (at + 1) operand × LinksAt (at + 1 + length (expr_kinds operand)) rest

  pub PostfixAt : ℕ → PostfixList → Type 0
  PostfixAt at e.no_postfix = Unit {0}
  PostfixAt at (e.index token x rest) = (token ≡ at) × ExprAt (at + 1) x × PostfixAt (at + 1 + length (expr_kinds x) + 1) rest
  PostfixAt at (e.member token name rest) = (token ≡ at) × PostfixAt (at + 2) rest
  PostfixAt at (e.arrow token name rest) = (token ≡ at) × PostfixAt (at + 2) rest
  PostfixAt at (e.increment token rest) = (token ≡ at) × PostfixAt (at + 1) rest
  PostfixAt at (e.decrement token rest) = (token ≡ at) × PostfixAt (at + 1) rest

abbrev pub InitialAt : ℕ → InitialTree → Type 0
InitialAt at (s.Value value) = ExprAt at value
InitialAt at (s.Braced token items comma) = (token ≡ at) × ExprsAt (at + 1) items

abbrev pub StartAt : ℕ → StartTree → Type 0
StartAt at x = (x.token ≡ at) × DeclaratorAt at x.declarator × IfSome x.initial (InitialAt (at + length (declarator_kinds x.declarator) + 1))

abbrev pub DeclarationAt : ℕ → DeclarationTree → Type 0
DeclarationAt at d = (d.token ≡ at) × BaseAt at d.base × EachAt StartAt start_kinds 1 (at + length (base_kinds d.base)) d.starts

abbrev pub ForStartAt : ℕ → ForStartTree → Type 0
ForStartAt at (s.Declares declaration) = DeclarationAt at declaration
ForStartAt at (s.Computes x) = IfSome x (ExprAt at)

abbrev mutual
  pub StatementAt : ℕ → StatementTree → Type 0
  StatementAt at (s.Block token entries) = (token ≡ at) × EntriesAt (at + 1) entries
  StatementAt at (s.Empty token) = token ≡ at
  StatementAt at (s.Expr token x) = (token ≡ at) × ExprAt at x
  StatementAt at (s.If token condition first) = (token ≡ at) × ExprAt (at + 2) condition × StatementAt (at + 2 + length (expr_kinds condition) + 1) first
  StatementAt at (s.IfElse token condition first second) =
      (token ≡ at) × ExprAt (at + 2) condition × StatementAt (at + 2 + length (expr_kinds condition) + 1) first ×
      StatementAt (at + 2 + length (expr_kinds condition) + 1 + length (statement_kinds first) + 1) second
  StatementAt at (s.While token condition body) = (token ≡ at) × ExprAt (at + 2) condition × StatementAt (at + 2 + length (expr_kinds condition) + 1) body
  StatementAt at (s.Do token body condition) = (token ≡ at) × StatementAt (at + 1) body × ExprAt (at + 1 + length (statement_kinds body) + 2) condition
  StatementAt at (s.For token start condition step body) =
      (token ≡ at) × ForStartAt (at + 2) start ×
      IfSome condition (ExprAt (at + 2 + length (for_start_kinds start))) ×
      IfSome step (ExprAt (at + 2 + length (for_start_kinds start) + length (optional_kinds expr_kinds condition) + 1)) ×
      StatementAt (at + 2 + length (for_start_kinds start) + length (optional_kinds expr_kinds condition) + 1 + length (optional_kinds expr_kinds step) + 1)
      body
  StatementAt at (s.Return token value) = (token ≡ at) × IfSome value (ExprAt (at + 1))
  StatementAt at (s.Break token) = token ≡ at
  StatementAt at (s.Continue token) = token ≡ at

  pub EntriesAt : ℕ → EntryList → Type 0
  EntriesAt at s.no_entries = Unit {0}
  EntriesAt at (s.declared declaration rest) = DeclarationAt at declaration × EntriesAt (at + length (declaration_kinds declaration)) rest
  EntriesAt at (s.stated statement rest) = StatementAt at statement × EntriesAt (at + length (statement_kinds statement)) rest

abbrev pub ItemAt : ℕ → ItemTree → Type 0
ItemAt at (i.Struct token tag members) = (token ≡ at) × EachAt MembersAt members_kinds 0 (at + 3) members
ItemAt at (i.Function token b stars name ps body) =
    (token ≡ at) × BaseAt at b × ParamsAt (at + length (type_kinds b stars) + 2) ps ×
    IfSome body (EntriesAt (at + length (type_kinds b stars) + 2 + length (params_kinds ps) + 2))
ItemAt at (i.Declaration declaration) = DeclarationAt at declaration
