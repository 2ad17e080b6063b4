-- The rules of types' names and of expressions.
use Rattle.std.specs.Prelude.{◌≡◌, ℕ, ◌+◌, ◌≤◌, ◌<◌, List, [], ◌∷◌, ◌++◌, Some}
use Rattle.c_syntax.specs.declared.token.Sign.{Sign}
use Rattle.c_syntax.specs.declared.token.Sign.TheVariants as sign
use Rattle.c_syntax.specs.declared.token.Word.TheVariants as word
use Rattle.c_syntax.specs.declared.token.TokenKind.{TokenKind}
use Rattle.c_syntax.specs.declared.token.TokenKind.TheVariants as kind
use Rattle.c_syntax.specs.declared.parts.Base.{Base}
use Rattle.c_syntax.specs.Words.{ExprTree, ExprList, LinkList, PostfixList, Kinds, a_sign, base_kinds, type_kinds, star_kinds, text_kinds, expr_kinds}
use Rattle.c_syntax.specs.Words.{exprs_kinds, more_exprs_kinds, link_kinds, postfix_kinds, expr_nesting, exprs_nesting, arguments_nesting, links_nesting}
use Rattle.c_syntax.specs.Words.{postfix_nesting, expression_rank, HasExpr, ShapedExpr, ShapedExprs, ShapedLinks, ShapedPostfix, BaseAt, ExprAt, ExprsAt}
use Rattle.c_syntax.specs.Words.{LinksAt}
use Rattle.c_syntax.specs.Words.{PostfixAt}
use Rattle.c_parser_expressions.specs.Reading.{Rule, AnythingFollows, sign_at, word_at}

-- How closely a sign binds what stands before it: what can't end a part of rank r binds by more than r.
abbrev pub sign_binds : Sign → ℕ
sign_binds sign.Comma = 1
sign_binds sign.Equal = 2
sign_binds sign.StarEqual = 2
sign_binds sign.SlashEqual = 2
sign_binds sign.PercentEqual = 2
sign_binds sign.PlusEqual = 2
sign_binds sign.MinusEqual = 2
sign_binds sign.ShiftLeftEqual = 2
sign_binds sign.ShiftRightEqual = 2
sign_binds sign.AndEqual = 2
sign_binds sign.XorEqual = 2
sign_binds sign.OrEqual = 2
sign_binds sign.Question = 3
sign_binds sign.OrOr = 4
sign_binds sign.AndAnd = 5
sign_binds sign.Bar = 6
sign_binds sign.Caret = 7
sign_binds sign.Ampersand = 8
sign_binds sign.EqualEqual = 9
sign_binds sign.NotEqual = 9
sign_binds sign.Less = 10
sign_binds sign.Greater = 10
sign_binds sign.LessEqual = 10
sign_binds sign.GreaterEqual = 10
sign_binds sign.ShiftLeft = 11
sign_binds sign.ShiftRight = 11
sign_binds sign.Plus = 12
sign_binds sign.Minus = 12
sign_binds sign.Star = 13
sign_binds sign.Slash = 13
sign_binds sign.Percent = 13
sign_binds sign.LeftBracket = 16
sign_binds sign.Dot = 16
sign_binds sign.Arrow = 16
sign_binds sign.PlusPlus = 16
sign_binds sign.MinusMinus = 16
sign_binds sign.LeftParen = 17
sign_binds _ = 0

abbrev pub kind_binds : TokenKind → ℕ
kind_binds (kind.Punctuator s) = sign_binds s
kind_binds (kind.Text bytes) = 17
kind_binds _ = 0

abbrev pub binding_strength : Kinds → ℕ
binding_strength [] = 0
binding_strength (x ∷ xs) = kind_binds x

pub record EndsAt (r : ℕ) (k : Kinds) : Type 0 where
  pub by : binding_strength k ≤ r

-- an expression of at least this rank that nests at most d deep
pub record IsExpr (r d at : ℕ) (x : ExprTree) : Type 0 where
  pub ranks : r ≤ expression_rank x
  pub shaped : ShapedExpr x
  pub nests : expr_nesting x ≤ d
  pub placed : ExprAt at x

abbrev pub expression : (r d : ℕ) → Rule ExprTree
expression r d = record { Is = IsExpr r d; spell = expr_kinds; Ends = λ x k. EndsAt r k }

-- one that is one deeper than what may nest d deep
pub record IsInner (r d at : ℕ) (x : ExprTree) : Type 0 where
  pub ranks : r ≤ expression_rank x
  pub shaped : ShapedExpr x
  pub nests : expr_nesting x < d
  pub placed : ExprAt at x

abbrev pub inner_expression : (r d : ℕ) → Rule ExprTree
inner_expression r d = record { Is = IsInner r d; spell = expr_kinds; Ends = λ x k. EndsAt r k }

-- one or more expressions that are no comma expressions, with commas between them
pub record AreExprs (d at : ℕ) (xs : ExprList) : Type 0 where
  pub some : HasExpr xs
  pub shaped : ShapedExprs xs
  pub nests : exprs_nesting xs ≤ d
  pub placed : ExprsAt at xs

abbrev pub expressions : (d : ℕ) → Rule ExprList
expressions d = record { Is = AreExprs d; spell = exprs_kinds; Ends = λ x k. EndsAt 0 k }

-- a call's arguments, and the parenthesis behind them
pub record AreArguments (d at : ℕ) (xs : ExprList) : Type 0 where
  pub shaped : ShapedExprs xs
  pub nests : arguments_nesting xs ≤ d
  pub placed : ExprsAt at xs

abbrev pub arguments : (d : ℕ) → Rule ExprList
arguments d = record { Is = AreArguments d; spell = λ xs. exprs_kinds xs ++ a_sign sign.RightParen; Ends = λ x k. AnythingFollows k }

-- expressions that are no comma expressions, each with a comma before it: `at` is the index of the first comma
pub record AreMore (d at : ℕ) (xs : ExprList) : Type 0 where
  pub shaped : ShapedExprs xs
  pub nests : exprs_nesting xs ≤ d
  pub placed : ExprsAt (at + 1) xs

abbrev pub more_expressions : (d : ℕ) → Rule ExprList
more_expressions d = record { Is = AreMore d; spell = more_exprs_kinds; Ends = λ x k. EndsAt 0 k }

pub record AreLinks (level d at : ℕ) (x : LinkList) : Type 0 where
  pub shaped : ShapedLinks level x
  pub nests : links_nesting x ≤ d
  pub placed : LinksAt at x

-- the operators of a chain, each with its operand
abbrev pub chain_links : (level d : ℕ) → Rule LinkList
chain_links level d = record { Is = AreLinks level d; spell = link_kinds; Ends = λ x k. EndsAt (level + 2) k }

pub record ArePostfix (d at : ℕ) (x : PostfixList) : Type 0 where
  pub shaped : ShapedPostfix x
  pub nests : postfix_nesting x ≤ d
  pub placed : PostfixAt at x

abbrev pub postfix_operators : (d : ℕ) → Rule PostfixList
postfix_operators d = record { Is = ArePostfix d; spell = postfix_kinds; Ends = λ x k. EndsAt 15 k }

-- no `int` stands there
pub record NoInt (k : Kinds) : Type 0 where
  pub not : word_at k ≡ Some word.Int → ⊥

abbrev pub type_base : Rule Base
type_base = record { Is = BaseAt; spell = base_kinds; Ends = λ b k. NoInt k }

pub record NoStar (k : Kinds) : Type 0 where
  pub not : sign_at k ≡ Some sign.Star → ⊥

-- what can stand behind a type: neither a star nor `int`
pub record EndsType (k : Kinds) : Type 0 where
  pub no_star : NoStar k
  pub no_int : NoInt k

-- at most d stars, behind a base
abbrev pub stars : (d : ℕ) → Rule ℕ
stars d = record { Is = λ at n. n ≤ d; spell = star_kinds; Ends = λ n k. EndsType k }

-- a base with stars
abbrev pub type_name : (d : ℕ) → Rule (Base × ℕ)
type_name d = record {
  Is = λ at t. BaseAt at t.0 × (t.1 ≤ d);
  spell = λ t. type_kinds t.0 t.1;
  Ends = λ t k. EndsType k;
}

-- strings one after another
abbrev pub string_parts : Rule (List (List ℕ))
string_parts = record { Is = λ at xs. Unit {0}; spell = text_kinds; Ends = λ xs k. EndsAt 16 k }
