-- `!E` is `0 == E` (C99 6.5.3.3p5).
use Rattle.std.specs.Prelude.{◌≡◌, ℕ, Option, Some}
use Rattle.cbi_base.specs.Words.{Locals, LiesIn, IsInRange}
use Rattle.cbi_base.specs.declared.scalar.Scalar.{Scalar}
use Rattle.cbi_base.specs.declared.scalar.Scalar.TheVariants.{Number, Place, Null, Undefined}
use Rattle.c_syntax.specs.declared.expr.PrefixOperator.TheVariants as prefix
use Rattle.c_syntax.specs.declared.token.Sign.TheVariants as sign
use Rattle.c_syntax.specs.ExprTree as e
use Rattle.c_syntax.specs.ExprTree.{ExprTree}
use Rattle.c_meaning.specs.declared.value_type.ValueType.{ValueType}
use Rattle.c_meaning.specs.declared.value_type.ValueType.TheVariants as type
use Rattle.c_meaning.specs.Words.{Setting, expr, Source, call_at, setting_of, type_of, World, Go}
use Rattle.c_meaning_laws.specs.Rules.{IsValue}
use Rattle.c_meaning_laws.specs.Typed.{Typed}
use Rattle.c_meaning_laws.specs.TypedSource.{SourceFits}
use Rattle.c_meaning_laws.specs.Constants.{IsInt, zero_at}
use Rattle.c_meaning_laws.specs.Parentheses.{IsWritten}

-- a value of a type: a number of its kind, within the kind's range, a pointer, or one that is undefined
abbrev pub IsValueOfType : Option ValueType → Scalar → Type 0
IsValueOfType (Some (type.Number kind)) (Number other value) = (other ≡ kind) × LiesIn kind value
IsValueOfType (Some (type.Number kind)) Undefined = Unit {0}
IsValueOfType (Some (type.Pointer size)) (Place number offset) = Unit {0}
IsValueOfType (Some (type.Pointer size)) Null = Unit {0}
IsValueOfType (Some (type.Pointer size)) Undefined = Unit {0}
IsValueOfType (Some (type.Array size)) (Place number offset) = Unit {0}
IsValueOfType (Some (type.Array size)) Undefined = Unit {0}
IsValueOfType of v = ⊥

-- where the expression gives a value in this state, it is one of its type
abbrev pub GivesItsType : Setting → ExprTree → World → Type 0
GivesItsType s x w = (v : Scalar) (u : World) → (expr s x).value w ≡ Go v u → IsValueOfType (type_of s.facts x) v

-- `0 == x`
abbrev pub zero_equals : ℕ → ℕ → ℕ → ExprTree → ExprTree
zero_equals level constant equals x = e.Chain level (zero_at constant) (e.more_links equals sign.EqualEqual x e.no_links)

-- `!x` does what `0 == x` does and gives the same value, or what `0 == (x)` does.
abbrev pub NotIsEqualsZero : Type 0
NotIsEqualsZero =
    (s : Setting) (token level constant equals : ℕ) (x right : ExprTree) (w : World) → IsInt s.facts constant → GivesItsType s x w → IsWritten s.facts x right →
    (expr s (e.Prefix token prefix.Not x)).value w ≡ (expr s (zero_equals level constant equals right)).value w

-- In a function of a text whose types fit, an expression whose types fit gives a value of its type, if a number that it gives lies in its kind's range.
abbrev pub TypedValueMeets : Type 0
TypedValueMeets =
    (src : Source) (calls : ℕ) (locals : Locals) (x : ExprTree) (w : World) →
    let s : Setting = setting_of src (call_at src calls) locals in
    SourceFits src → Typed s.facts s.sites locals.count x → IsValue (type_of s.facts x) →
    ((v : Scalar) (u : World) → (expr s x).value w ≡ Go v u → IsInRange v) → GivesItsType s x w
