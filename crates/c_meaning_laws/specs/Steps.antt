-- `++E` is `E += 1`, and `--E` is `E -= 1` (C99 6.5.3.1p2).
use Rattle.std.specs.Prelude.{◌≡◌, ℕ, true}
use Rattle.c_syntax.specs.declared.expr.PrefixOperator.TheVariants as prefix
use Rattle.c_syntax.specs.declared.token.Sign.TheVariants as sign
use Rattle.c_syntax.specs.ExprTree as e
use Rattle.c_syntax.specs.ExprTree.{ExprTree}
use Rattle.c_meaning.specs.Words.{Setting, expr, is_place, World}
use Rattle.c_meaning_laws.specs.Constants.{IsInt, one_at}
use Rattle.c_meaning_laws.specs.Indexing.{with_postfix_operators}

-- `++x` means what `x += 1` means: as a value, and for what it does alone.
abbrev pub IncrementIsSum : Type 0
IncrementIsSum =
    (s : Setting) (token one : ℕ) (x : ExprTree) → IsInt s.facts one →
    expr s (e.Prefix token prefix.Increment x) ≡ expr s (e.Assign token sign.PlusEqual x (one_at one))

-- `--x` means what `x -= 1` means.
abbrev pub DecrementIsDifference : Type 0
DecrementIsDifference =
    (s : Setting) (token one : ℕ) (x : ExprTree) → IsInt s.facts one →
    expr s (e.Prefix token prefix.Decrement x) ≡ expr s (e.Assign token sign.MinusEqual x (one_at one))

-- Where nothing takes its value, `x++` does what `++x` does, and `x--` what `--x` does: they give the old value, and change x the same (C99 6.5.2.4p2).
abbrev pub StepBehindIsStep : Type 0
StepBehindIsStep =
    (s : Setting) (token : ℕ) (x : ExprTree) (w : World) → is_place x ≡ true →
    ((expr s (with_postfix_operators x (e.increment token e.no_postfix))).effect w ≡ (expr s (e.Prefix token prefix.Increment x)).effect w)
    × ((expr s (with_postfix_operators x (e.decrement token e.no_postfix))).effect w ≡ (expr s (e.Prefix token prefix.Decrement x)).effect w)
