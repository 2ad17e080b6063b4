-- The rules of statements.
use Rattle.std.specs.Prelude.{◌≡◌, ℕ, ◌+◌, ◌≤◌, ◌<◌, true, false, ◌++◌, length, Option, Some, None, IfSome}
use Rattle.c_syntax.specs.declared.token.Sign.{Sign}
use Rattle.c_syntax.specs.declared.token.Sign.TheVariants as sign
use Rattle.c_syntax.specs.declared.token.Word.TheVariants as word
use Rattle.c_syntax.specs.Words.{ExprTree, ForStartTree, StatementTree, EntryList, Kinds, a_sign, a_word, optional_kinds, parenthesized_kinds, expr_kinds}
use Rattle.c_syntax.specs.Words.{for_start_kinds}
use Rattle.c_syntax.specs.Words.{statement_kinds, entry_kinds, for_start_nesting, statement_nesting, entries_nesting, ShapedForStart, ends_open}
use Rattle.c_syntax.specs.Words.{ShapedStatement, ShapedEntries, ForStartAt, StatementAt, EntriesAt}
use Rattle.c_parser_expressions.specs.Reading.{Rule, AnythingFollows, word_at}
use Rattle.c_parser_expressions.specs.Expressions.{IsExpr}
use Rattle.c_parser_statements.specs.StatementParser.{Header}

pub record IsStatement (d at : ℕ) (x : StatementTree) : Type 0 where
  pub shaped : ShapedStatement x
  pub nests : statement_nesting x ≤ d
  pub placed : StatementAt at x

-- no `else` stands there
pub record NoElse (k : Kinds) : Type 0 where
  pub not : word_at k ≡ Some word.Else → ⊥

-- an `else` behind a statement that could take it is its own
pub record EndsStatement (x : StatementTree) (k : Kinds) : Type 0 where
  pub closed : ends_open x ≡ true → NoElse k

abbrev pub statement : (d : ℕ) → Rule StatementTree
statement d = record { Is = IsStatement d; spell = statement_kinds; Ends = EndsStatement }

-- one that is one deeper than what may nest d deep
pub record IsInnerStatement (d at : ℕ) (x : StatementTree) : Type 0 where
  pub shaped : ShapedStatement x
  pub nests : statement_nesting x < d
  pub placed : StatementAt at x

abbrev pub inner_statement : (d : ℕ) → Rule StatementTree
inner_statement d = record { Is = IsInnerStatement d; spell = statement_kinds; Ends = EndsStatement }

-- the first branch of an `if`, and the second where there is one
abbrev pub OtherwiseIs : (d at : ℕ) → StatementTree → Option StatementTree → Type 0
OtherwiseIs d at x None = Unit {0}
OtherwiseIs d at x (Some y) = (ends_open x ≡ false) × IsInnerStatement d (at + 1) y

abbrev pub EndsOtherwise : Option StatementTree → Kinds → Type 0
EndsOtherwise None k = NoElse k
EndsOtherwise (Some y) k = EndsStatement y k

abbrev pub else_kinds : Option StatementTree → Kinds
else_kinds o = optional_kinds (λ y. a_word word.Else ++ statement_kinds y) o

abbrev pub if_branches : (d : ℕ) → Rule (StatementTree × Option StatementTree)
if_branches d = record {
  Is = λ at p. IsInnerStatement d at p.0 × OtherwiseIs d (at + length (statement_kinds p.0)) p.0 p.1;
  spell = λ p. statement_kinds p.0 ++ else_kinds p.1;
  Ends = λ p k. EndsOtherwise p.1 k;
}

-- an expression in parentheses that add nothing to its nesting
abbrev pub condition : (d : ℕ) → Rule ExprTree
condition d = record { Is = λ at x. IsExpr 0 d (at + 1) x; spell = λ x. parenthesized_kinds (expr_kinds x); Ends = λ x k. AnythingFollows k }

-- an expression or none, with a sign behind it
abbrev pub ended_by : (d : ℕ) → Sign → Rule (Option ExprTree)
ended_by d s = record { Is = λ at o. IfSome o (IsExpr 0 d at); spell = λ o. optional_kinds expr_kinds o ++ a_sign s; Ends = λ o k. AnythingFollows k }

-- what stands behind the body of a `do`
abbrev pub do_loop_end : (d : ℕ) → Rule ExprTree
do_loop_end d = record {
  Is = λ at x. IsExpr 0 d (at + 2) x;
  spell = λ x. a_word word.While ++ (parenthesized_kinds (expr_kinds x) ++ a_sign sign.Semicolon);
  Ends = λ x k. AnythingFollows k;
}

pub record IsForStart (d at : ℕ) (x : ForStartTree) : Type 0 where
  pub shaped : ShapedForStart x
  pub nests : for_start_nesting x ≤ d
  pub placed : ForStartAt at x

abbrev pub for_start : (d : ℕ) → Rule ForStartTree
for_start d = record { Is = IsForStart d; spell = for_start_kinds; Ends = λ x k. AnythingFollows k }

-- what stands in the parentheses of a `for`, with them
abbrev pub header_kinds : Header → Kinds
header_kinds h = a_sign sign.LeftParen ++ (for_start_kinds h.start ++ ((optional_kinds expr_kinds h.condition ++ a_sign sign.Semicolon) ++
    (optional_kinds expr_kinds h.step ++ a_sign sign.RightParen)))

pub record IsHeader (d at : ℕ) (h : Header) : Type 0 where
  pub start : IsForStart d (at + 1) h.start
  pub condition : IfSome h.condition (IsExpr 0 d (at + 1 + length (for_start_kinds h.start)))
  pub step : IfSome h.step (IsExpr 0 d (at + 1 + length (for_start_kinds h.start) + length (optional_kinds expr_kinds h.condition ++ a_sign sign.Semicolon)))

abbrev pub for_header : (d : ℕ) → Rule Header
for_header d = record { Is = IsHeader d; spell = header_kinds; Ends = λ h k. AnythingFollows k }

-- entries, and the brace behind them
pub record AreEntries (d at : ℕ) (xs : EntryList) : Type 0 where
  pub shaped : ShapedEntries xs
  pub nests : entries_nesting xs ≤ d
  pub placed : EntriesAt at xs

abbrev pub entries_end : (d : ℕ) → Rule EntryList
entries_end d = record { Is = AreEntries d; spell = λ xs. entry_kinds xs ++ a_sign sign.RightBrace; Ends = λ xs k. AnythingFollows k }
