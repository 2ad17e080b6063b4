-- An expression statement lets the value go (C99 6.8.3p2, 6.3.2.2).
use Rattle.std.specs.Prelude.{◌≡◌, ℕ, Some}
use Rattle.c_syntax.specs.declared.parts.Base.TheVariants as base
use Rattle.c_syntax.specs.ExprTree as e
use Rattle.c_syntax.specs.ExprTree.{ExprTree}
use Rattle.c_syntax.specs.StatementTree as tree
use Rattle.c_meaning.specs.declared.value_type.ValueType.{ValueType}
use Rattle.c_meaning.specs.declared.value_type.ValueType.TheVariants as type
use Rattle.c_meaning.specs.Words.{Setting, expr, exec, type_of, World, Go, Next, bind}
use Rattle.c_meaning_laws.specs.Rules.{IsValue}
use Rattle.c_meaning_laws.specs.Typed.{Typed}

-- `(void)(x)`
abbrev pub to_void : ℕ → ℕ → ℕ → ExprTree → ExprTree
to_void cast word paren x = e.Cast cast (base.Void word) 0 (e.Paren paren x)

-- `x;` does what `(void)(x);` does.
abbrev pub CastDiscards : Type 0
CastDiscards =
    (s : Setting) (n : ℕ) (result : ValueType) (token other cast word paren : ℕ) (x : ExprTree) (w : World) → s.facts.type_at cast ≡ Some type.Void →
    exec s n result (tree.Expr token x) w ≡ exec s n result (tree.Expr other (to_void cast word paren x)) w

-- `x;` does what x does where its value is taken, and goes on whatever the value is.
abbrev pub StatementDiscards : Type 0
StatementDiscards =
    (s : Setting) (count n : ℕ) (result : ValueType) (token : ℕ) (x : ExprTree) (w : World) → Typed s.facts s.sites count x → IsValue (type_of s.facts x) →
    exec s n result (tree.Expr token x) w ≡ bind ((expr s x).value w) (λ _. Go Next)
