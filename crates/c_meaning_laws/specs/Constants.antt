-- The constants that C99's own equations write.
use Rattle.std.specs.Prelude.{◌≡◌, ℕ, pos, Some}
use Rattle.cbi_base.specs.declared.scalar.Kind.TheVariants.{Int}
use Rattle.c_syntax.specs.ExprTree as e
use Rattle.c_syntax.specs.ExprTree.{ExprTree}
use Rattle.c_meaning.specs.declared.value_type.ValueType.TheVariants as type
use Rattle.c_meaning.specs.Facts.{Facts}

-- what stands at the token is an `int`, as the constants 0 and 1 are, and what `&&`, `||`, `!` and `==` give (C99 6.4.4.1p5, 6.5.13p3)
abbrev pub IsInt : Facts → ℕ → Type 0
IsInt facts token = facts.type_at token ≡ Some (type.Number Int)

abbrev pub zero_at : ℕ → ExprTree
zero_at token = e.Constant token Int (pos 0)

abbrev pub one_at : ℕ → ExprTree
one_at token = e.Constant token Int (pos 1)
