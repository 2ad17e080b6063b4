-- Commas and conditionals as statements (C99 6.5.17p2, 6.5.15p4), and a condition turned round (C99 6.5.3.3p5, 6.8.4.1p2).
use Rattle.std.specs.Prelude.{◌≡◌, ℕ, Some, None}
use Rattle.c_syntax.specs.declared.expr.PrefixOperator.TheVariants as prefix
use Rattle.c_syntax.specs.ExprTree as e
use Rattle.c_syntax.specs.Words.{ExprTree, ExprList, StatementTree, EntryList}
use Rattle.c_syntax.specs.StatementTree as tree
use Rattle.c_meaning.specs.declared.value_type.ValueType.{ValueType}
use Rattle.c_meaning.specs.declared.value_type.ValueType.TheVariants as type
use Rattle.c_meaning.specs.Words.{Setting, exec, exec_all, World}

-- each expression as a statement
abbrev pub in_sequence : ℕ → ExprList → EntryList
in_sequence token e.no_exprs = tree.no_entries
in_sequence token (e.more_exprs x rest) = tree.stated (tree.Expr token x) (in_sequence token rest)

-- `x, y;` does what `x; y;` does, for any number of operands.
abbrev pub CommaIsSequence : Type 0
CommaIsSequence =
    (s : Setting) (n : ℕ) (result : ValueType) (token comma : ℕ) (x : ExprTree) (rest : ExprList) (w : World) →
    exec s n result (tree.Expr token (e.Comma comma (e.more_exprs x rest))) w ≡ exec_all s n result (in_sequence token (e.more_exprs x rest)) w

-- `c ? x : y;` does what `if (c) x; else y;` does, where x and y have no values: with the same site.
abbrev pub ConditionalIsIf : Type 0
ConditionalIsIf =
    (s : Setting) (n : ℕ) (result : ValueType) (statement token first second : ℕ) (c x y : ExprTree) (w : World) → s.facts.type_at token ≡ Some type.Void →
    exec s n result (tree.Expr statement (e.Conditional token c x y)) w ≡ exec s n result (tree.IfElse token c (tree.Expr first x) (tree.Expr second y)) w

-- `if (!c) x else y` does what `if (c) y else x` does, where the condition has no site.
abbrev pub NegatedConditionSwaps : Type 0
NegatedConditionSwaps =
    (s : Setting) (n : ℕ) (result : ValueType) (token negation : ℕ) (c : ExprTree) (x y : StatementTree) (w : World) → s.sites.branch_at token ≡ None →
    exec s n result (tree.IfElse token (e.Prefix negation prefix.Not c) x y) w ≡ exec s n result (tree.IfElse token c y x) w
