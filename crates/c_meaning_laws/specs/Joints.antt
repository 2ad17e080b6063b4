-- `a && b` is `a ? b ? 1 : 0 : 0`, and `a || b` is `a ? 1 : b ? 1 : 0` (C99 6.5.13p3, p4, 6.5.14p3, p4).
use Rattle.std.specs.Prelude.{◌≡◌, ℕ, None}
use Rattle.c_syntax.specs.declared.token.Sign.TheVariants as sign
use Rattle.c_syntax.specs.declared.token.Sign.{Sign}
use Rattle.c_syntax.specs.ExprTree as e
use Rattle.c_syntax.specs.ExprTree.{ExprTree}
use Rattle.c_meaning.specs.Words.{Setting, expr}
use Rattle.c_meaning_laws.specs.Constants.{IsInt, one_at, zero_at}

-- two operands and the operator between them
abbrev pub joined_by : Sign → ℕ → ℕ → ExprTree → ExprTree → ExprTree
joined_by joint level token a b = e.Chain level a (e.more_links token joint b e.no_links)

-- `b ? 1 : 0`
abbrev pub flag_of : ℕ → ExprTree → ℕ → ℕ → ExprTree
flag_of question b first second = e.Conditional question b (one_at first) (zero_at second)

-- the operator and `b ? 1 : 0` are `int`s, as are the constants, and the latter has no site
pub record AreInts (s : Setting) (token question first second other : ℕ) : Type 0 where
  pub whole : IsInt s.facts token
  pub flag : IsInt s.facts question
  pub one : IsInt s.facts first
  pub nought : IsInt s.facts second
  pub beside : IsInt s.facts other
  pub bare : s.sites.branch_at question ≡ None

-- `a && b` means what `a ? b ? 1 : 0 : 0` means: as a value, and for what it does alone. The site of `&&`, where it has one, is that of the outer `?`.
abbrev pub AndIsConditional : Type 0
AndIsConditional =
    (s : Setting) (level token question first second other : ℕ) (a b : ExprTree) → AreInts s token question first second other →
    expr s (joined_by sign.AndAnd level token a b) ≡ expr s (e.Conditional token a (flag_of question b first second) (zero_at other))

-- `a || b` means what `a ? 1 : b ? 1 : 0` means.
abbrev pub OrIsConditional : Type 0
OrIsConditional =
    (s : Setting) (level token question first second other : ℕ) (a b : ExprTree) → AreInts s token question first second other →
    expr s (joined_by sign.OrOr level token a b) ≡ expr s (e.Conditional token a (one_at other) (flag_of question b first second))
