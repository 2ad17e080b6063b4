-- The grammar (C99 6.5 to 6.9, as restated), a line a rule: the tokens of each tree in order, which of them is its own, and which parts are deeper.
use Rattle.std.specs.Prelude.{◌≡◌, ℕ, ◌+◌, ◌≤◌, if◌then◌else◌, Bool, true, false, List, [], ◌∷◌, get_or, length, replicate, Option, Some, None, ◌⊎◌}
use Rattle.c_syntax.specs.declared.token.Sign.{Sign}
use Rattle.c_syntax.specs.declared.token.Sign.TheVariants as sign
use Rattle.c_syntax.specs.declared.token.Word.TheVariants as word
use Rattle.c_syntax.specs.declared.token.TokenKind.{TokenKind}
use Rattle.c_syntax.specs.declared.token.TokenKind.TheVariants as kind
use Rattle.c_syntax.specs.declared.parts.Base.{Base}
use Rattle.c_syntax.specs.declared.parts.Base.TheVariants as base
use Rattle.c_syntax.specs.declared.parts.Bound.{Bound}
use Rattle.c_syntax.specs.declared.parts.Declarator.{Declarator}
use Rattle.c_syntax.specs.declared.parts.Members.{Members}
use Rattle.c_syntax.specs.declared.parts.Param.{Param}
use Rattle.c_syntax.specs.declared.parts.ParamName.{ParamName}
use Rattle.c_syntax.specs.declared.parts.Params.{Params}
use Rattle.c_syntax.specs.declared.parts.Params.TheVariants as params
use Rattle.c_syntax.specs.declared.expr.PrefixOperator.{PrefixOperator}
use Rattle.c_syntax.specs.declared.expr.PrefixOperator.TheVariants as prefix
use Rattle.c_syntax.specs.ExprTree as e
use Rattle.c_syntax.specs.StatementTree as s
use Rattle.c_syntax.specs.ItemTree as i
use Rattle.c_syntax.specs.Words.{DeclarationTree, EntryList, ExprList, ExprTree, ForStartTree, InitialTree, ItemTree, LinkList, PostfixList, SourceTree}
use Rattle.c_syntax.specs.Words.{StartTree, StatementTree}
use Rattle.c_grammar.specs.Rule.{any_number, at_least_one, at_most_one, comma_list, deeper_by, in_braces, in_parens, name_token, no_tree, only_if, own_sign}
use Rattle.c_grammar.specs.Rule.{own_token, own_word, Rule, sign_token, these_tokens, word_token, ◌▸◌}

abbrev pub IsOneOf : Sign → List Sign → Type 0
IsOneOf x [] = ⊥
IsOneOf x (y ∷ ys) = (x ≡ y) ⊎ IsOneOf x ys

-- a base, with the token `int` where it stands behind `unsigned`
abbrev pub base_rule : Base → Rule
base_rule (base.Void token) = own_word token word.Void
base_rule (base.Char token) = own_word token word.Char
base_rule (base.Int token) = own_word token word.Int
base_rule (base.Unsigned token int) = own_token token (word_token word.Unsigned ▸ these_tokens (if int then kind.Word word.Int ∷ [] else []))
base_rule (base.Struct token tag) = own_token token (word_token word.Struct ▸ name_token tag)

abbrev pub stars_rule : ℕ → Rule
stars_rule n = these_tokens (replicate n (kind.Punctuator sign.Star))

-- each `*` of a type, and each `[` of a declarator or of a parameter, is one deeper
abbrev pub type_rule : Base → ℕ → Rule
type_rule b n = deeper_by n (base_rule b ▸ stars_rule n)

abbrev pub bound_rule : Bound → Rule
bound_rule b = sign_token sign.LeftBracket ▸ at_most_one (λ c. these_tokens (kind.Constant c.kind c.value ∷ [])) b.length ▸ sign_token sign.RightBracket

abbrev pub declarator_rule : Declarator → Rule
declarator_rule d =
    deeper_by (d.stars + length d.bounds) (own_token d.token (stars_rule d.stars ▸ own_token d.name_token (name_token d.name) ▸ any_number bound_rule d.bounds))

abbrev pub members_rule : Members → Rule
members_rule m = own_token m.token (base_rule m.base ▸ comma_list declarator_rule m.declarators ▸ sign_token sign.Semicolon)

abbrev pub param_name_rule : ParamName → Rule
param_name_rule n = own_token n.token (name_token n.name ▸ at_most_one (λ b. deeper_by 1 (bound_rule b)) n.bound)

-- a parameter of base `void` has a star
abbrev pub param_rule : Param → Rule
param_rule p =
    only_if ((base_rule p.base).kinds ≡ (word_token word.Void).kinds → 1 ≤ p.stars)
    (deeper_by p.stars (own_token p.token (base_rule p.base ▸ stars_rule p.stars ▸ at_most_one param_name_rule p.name)))

abbrev pub params_rule : Params → Rule
params_rule params.Empty = these_tokens []
params_rule params.Void = word_token word.Void
params_rule (params.List list) = comma_list param_rule list

-- the token of a prefix operator, and the rule of its operand
abbrev pub prefix_rule : PrefixOperator → TokenKind × ℕ
prefix_rule prefix.Increment = (kind.Punctuator sign.PlusPlus, 14)
prefix_rule prefix.Decrement = (kind.Punctuator sign.MinusMinus, 14)
prefix_rule prefix.SizeOf = (kind.Word word.Sizeof, 14)
prefix_rule prefix.Address = (kind.Punctuator sign.Ampersand, 13)
prefix_rule prefix.Indirection = (kind.Punctuator sign.Star, 13)
prefix_rule prefix.Plus = (kind.Punctuator sign.Plus, 13)
prefix_rule prefix.Minus = (kind.Punctuator sign.Minus, 13)
prefix_rule prefix.Complement = (kind.Punctuator sign.Tilde, 13)
prefix_rule prefix.Not = (kind.Punctuator sign.Exclamation, 13)

-- the operators of each level of a chain, and none of level 0
abbrev pub chain_operators : List (List Sign)
chain_operators =
    [] ∷ (sign.OrOr ∷ []) ∷ (sign.AndAnd ∷ []) ∷ (sign.Bar ∷ []) ∷ (sign.Caret ∷ []) ∷ (sign.Ampersand ∷ []) ∷ (sign.EqualEqual ∷ sign.NotEqual ∷ []) ∷
    (sign.Less ∷ sign.Greater ∷ sign.LessEqual ∷ sign.GreaterEqual ∷ []) ∷ (sign.ShiftLeft ∷ sign.ShiftRight ∷ []) ∷ (sign.Plus ∷ sign.Minus ∷ []) ∷
    (sign.Star ∷ sign.Slash ∷ sign.Percent ∷ []) ∷ []

abbrev pub assignment_operators : List Sign
assignment_operators =
    sign.Equal ∷ sign.StarEqual ∷ sign.SlashEqual ∷ sign.PercentEqual ∷ sign.PlusEqual ∷ sign.MinusEqual ∷ sign.ShiftLeftEqual ∷ sign.ShiftRightEqual ∷
    sign.AndEqual ∷ sign.XorEqual ∷ sign.OrEqual ∷ []

abbrev mutual
  -- The rules of expressions by number, from the outermost in: 0 is a comma, 1 an assignment, 2 a conditional, 3 to 12 chains of level 1 to 10, 13 a cast,
  -- 14 a unary, 15 a postfix, 16 a primary expression. A place for one rule, `from`, takes the rules after it too.
  pub expr_rule : (from : ℕ) → ExprTree → Rule
  expr_rule from (e.Comma token (e.more_exprs x (e.more_exprs y rest))) =
      only_if (from ≤ 0) (expr_rule 1 x ▸ own_sign token sign.Comma ▸ expr_rule 1 y ▸ behind_commas 0 rest)
  expr_rule from (e.Comma token _) = no_tree
  expr_rule from (e.Assign token x target value) =
      only_if (from ≤ 1) (only_if (IsOneOf x assignment_operators) (expr_rule 14 target ▸ own_sign token x ▸ deeper_by 1 (expr_rule 1 value)))
  expr_rule from (e.Conditional token condition first second) =
      only_if (from ≤ 2) (expr_rule 3 condition ▸ own_sign token sign.Question ▸ deeper_by 1 (expr_rule 0 first) ▸ sign_token sign.Colon ▸
      deeper_by 1 (expr_rule 2 second))
  expr_rule from (e.Chain level first e.no_links) = no_tree
  expr_rule from (e.Chain level first links) = only_if (from ≤ level + 2) (expr_rule (level + 3) first ▸ links_rule level links)
  expr_rule from (e.Cast token b n operand) = only_if (from ≤ 13) (own_token token (in_parens (type_rule b n)) ▸ deeper_by 1 (expr_rule 13 operand))
  expr_rule from (e.Prefix token operator operand) =
      only_if (from ≤ 14) (own_token token (these_tokens ((prefix_rule operator).0 ∷ [])) ▸ deeper_by 1 (expr_rule (prefix_rule operator).1 operand))
  expr_rule from (e.SizeOfType token b n) = only_if (from ≤ 14) (own_word token word.Sizeof ▸ in_parens (type_rule b n))
  expr_rule from (e.Postfix primary e.no_postfix) = no_tree
  expr_rule from (e.Postfix primary operators) = only_if (from ≤ 15) (expr_rule 16 primary ▸ postfix_rule operators)
  expr_rule from (e.Name token name) = only_if (from ≤ 16) (own_token token (name_token name))
  expr_rule from (e.Call token name arguments) = only_if (from ≤ 16) (own_token token (name_token name) ▸ in_parens (inner_list arguments))
  expr_rule from (e.Constant token k value) = only_if (from ≤ 16) (own_token token (these_tokens (kind.Constant k value ∷ [])))
  expr_rule from (e.Strings token parts) = only_if (from ≤ 16) (own_token token (at_least_one (λ bytes. these_tokens (kind.Text bytes ∷ [])) parts))
  expr_rule from (e.Paren token x) = only_if (from ≤ 16) (own_token token (in_parens (deeper_by 1 (expr_rule 0 x))))
  expr_rule from (e.Null token) = only_if (from ≤ 16) (own_word token word.Null)
  expr_rule from (e.EndOfFile token) = only_if (from ≤ 16) (own_word token word.EndOfFile)

  -- each behind a comma, and so much deeper
  pub behind_commas : ℕ → ExprList → Rule
  behind_commas n e.no_exprs = these_tokens []
  behind_commas n (e.more_exprs x rest) = sign_token sign.Comma ▸ deeper_by n (expr_rule 1 x) ▸ behind_commas n rest

  -- arguments, and what stands in a braced list: one deeper
  pub inner_list : ExprList → Rule
  inner_list e.no_exprs = these_tokens []
  inner_list (e.more_exprs x rest) = deeper_by 1 (expr_rule 1 x) ▸ behind_commas 1 rest

  -- operators of this level, each with an operand of the next one
  pub links_rule : (level : ℕ) → LinkList → Rule
  links_rule level e.no_links = these_tokens []
  links_rule level (e.more_links token x operand rest) =
      only_if (IsOneOf x (get_or chain_operators level [])) (own_sign token x ▸ expr_rule (level + 3) operand ▸ links_rule level rest)

  pub postfix_rule : PostfixList → Rule
  postfix_rule e.no_postfix = these_tokens []
  postfix_rule (e.index token x rest) = own_sign token sign.LeftBracket ▸ deeper_by 1 (expr_rule 0 x) ▸ sign_token sign.RightBracket ▸ postfix_rule rest
  postfix_rule (e.member token name rest) = own_sign token sign.Dot ▸ name_token name ▸ postfix_rule rest
  postfix_rule (e.arrow token name rest) = own_sign token sign.Arrow ▸ name_token name ▸ postfix_rule rest
  postfix_rule (e.increment token rest) = own_sign token sign.PlusPlus ▸ postfix_rule rest
  postfix_rule (e.decrement token rest) = own_sign token sign.MinusMinus ▸ postfix_rule rest

abbrev pub initial_rule : InitialTree → Rule
initial_rule (s.Value value) = expr_rule 1 value
initial_rule (s.Braced token e.no_exprs comma) = no_tree
initial_rule (s.Braced token xs comma) = own_token token (in_braces (inner_list xs ▸ these_tokens (if comma then kind.Punctuator sign.Comma ∷ [] else [])))

-- with initialisers that are so much deeper than their declaration: 1 for a global, else 0
abbrev pub start_rule : ℕ → StartTree → Rule
start_rule by x = own_token x.token (declarator_rule x.declarator ▸ at_most_one (λ y. sign_token sign.Equal ▸ deeper_by by (initial_rule y)) x.initial)

abbrev pub declaration_rule : ℕ → DeclarationTree → Rule
declaration_rule by d = own_token d.token (base_rule d.base ▸ comma_list (start_rule by) d.starts ▸ sign_token sign.Semicolon)

abbrev pub for_start_rule : ForStartTree → Rule
for_start_rule (s.Declares d) = deeper_by 1 (declaration_rule 0 d)
for_start_rule (s.Computes x) = at_most_one (expr_rule 0) x ▸ sign_token sign.Semicolon

abbrev mutual
  -- `closed` where an `else` stands behind the statement: none is in it that could take that.
  pub statement_rule : (closed : Bool) → StatementTree → Rule
  statement_rule closed (s.Block token within) = own_token token (in_braces (entries_rule within))
  statement_rule closed (s.Empty token) = own_sign token sign.Semicolon
  statement_rule closed (s.Expr token x) = own_token token (expr_rule 0 x ▸ sign_token sign.Semicolon)
  statement_rule closed (s.If token condition first) =
      only_if (closed ≡ false) (own_word token word.If ▸ in_parens (expr_rule 0 condition) ▸ deeper_by 1 (statement_rule false first))
  statement_rule closed (s.IfElse token condition first second) =
      own_word token word.If ▸ in_parens (expr_rule 0 condition) ▸ deeper_by 1 (statement_rule true first) ▸ word_token word.Else ▸
      deeper_by 1 (statement_rule closed second)
  statement_rule closed (s.While token condition within) =
      own_word token word.While ▸ in_parens (expr_rule 0 condition) ▸ deeper_by 1 (statement_rule closed within)
  statement_rule closed (s.Do token within condition) =
      own_word token word.Do ▸ deeper_by 1 (statement_rule false within) ▸ word_token word.While ▸ in_parens (expr_rule 0 condition) ▸ sign_token sign.Semicolon
  statement_rule closed (s.For token begin condition step within) =
      own_word token word.For ▸ in_parens (for_start_rule begin ▸ at_most_one (expr_rule 0) condition ▸ sign_token sign.Semicolon ▸
      at_most_one (expr_rule 0) step) ▸ deeper_by 1 (statement_rule closed within)
  statement_rule closed (s.Return token value) = own_word token word.Return ▸ at_most_one (expr_rule 0) value ▸ sign_token sign.Semicolon
  statement_rule closed (s.Break token) = own_word token word.Break ▸ sign_token sign.Semicolon
  statement_rule closed (s.Continue token) = own_word token word.Continue ▸ sign_token sign.Semicolon

  pub entries_rule : EntryList → Rule
  entries_rule s.no_entries = these_tokens []
  entries_rule (s.declared d rest) = deeper_by 1 (declaration_rule 0 d) ▸ entries_rule rest
  entries_rule (s.stated x rest) = deeper_by 1 (statement_rule false x) ▸ entries_rule rest

abbrev pub body_rule : Option EntryList → Rule
body_rule None = sign_token sign.Semicolon
body_rule (Some within) = in_braces (entries_rule within)

abbrev pub item_rule : ItemTree → Rule
item_rule (i.Struct token tag list) = own_word token word.Struct ▸ name_token tag ▸ in_braces (at_least_one members_rule list) ▸ sign_token sign.Semicolon
item_rule (i.Function token b n name ps within) = own_token token (type_rule b n) ▸ name_token name ▸ in_parens (params_rule ps) ▸ body_rule within
item_rule (i.Declaration d) = declaration_rule 1 d

-- a whole text
abbrev pub program_rule : SourceTree → Rule
program_rule t = at_least_one item_rule t.items
