-- Parentheses change nothing: they have the type of what they hold (C99 6.5.1p5).
use Rattle.std.specs.Prelude.{◌≡◌, ◌⊎◌, ℕ}
use Rattle.c_syntax.specs.ExprTree as e
use Rattle.c_syntax.specs.ExprTree.{ExprTree}
use Rattle.c_meaning.specs.Words.{Facts, type_of}

-- the parentheses around an expression have the type of what they hold
abbrev pub KeepsType : Facts → ExprTree → Type 0
KeepsType facts (e.Paren token inner) = (facts.type_at token ≡ type_of facts inner) × KeepsType facts inner
KeepsType facts x = Unit {0}

-- `y` is `x`, or it is `(x)`
abbrev pub IsWritten : Facts → ExprTree → ExprTree → Type 0
IsWritten facts x y = (y ≡ x) ⊎ ((token : ℕ) × (y ≡ e.Paren token x) × (facts.type_at token ≡ type_of facts x))
