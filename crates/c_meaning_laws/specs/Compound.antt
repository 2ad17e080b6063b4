-- A compound assignment is its operation and a simple assignment (C99 6.5.16.2p3).
use Rattle.std.specs.Prelude.{◌≡◌, ℕ, List, true, Some}
use Rattle.cbi_base.specs.declared.operators.Binary.{Binary}
use Rattle.cbi_base.specs.declared.scalar.Scalar.{Scalar}
use Rattle.c_syntax.specs.declared.token.Sign.{Sign}
use Rattle.c_syntax.specs.declared.token.Sign.TheVariants as sign
use Rattle.c_syntax.specs.ExprTree as e
use Rattle.c_syntax.specs.ExprTree.{ExprTree}
use Rattle.c_types_expressions.specs.ExprWalk.{binary_of, compound_of}
use Rattle.c_meaning.specs.Words.{Setting, expr, operation, type_given, is_place, type_of, World, Out, Go, Stop}
use Rattle.c_meaning_laws.specs.Typed.{Typed}
use Rattle.c_meaning_laws.specs.Parentheses.{IsWritten, KeepsType}

-- `x = x op value`
abbrev pub assigned_operation : ℕ → ℕ → ℕ → Sign → ExprTree → ExprTree → ExprTree
assigned_operation token level operator plain x value = e.Assign token sign.Equal x (e.Chain level x (e.more_links operator plain value e.no_links))

-- the two signs are of this operator, as `+=` and `+` are
abbrev pub AreSignsOfOperator : Binary → Sign → Sign → Type 0
AreSignsOfOperator o compound plain = (compound_of compound ≡ Some o) × (binary_of plain ≡ Some o)

-- the value evaluates to `v` in this state, and changes nothing there; and `x op value` has the type that its operands give it
pub record IsOperand (s : Setting) (o : Binary) (operator : ℕ) (x value : ExprTree) (v : Scalar) (w : World) : Type 0 where
  pub gives : (expr s value).value w ≡ Go v w
  pub typed : s.facts.type_at operator ≡ type_given (operation o (type_of s.facts x) (type_of s.facts value)) (type_of s.facts x)

-- where what was done in this state goes on, it has changed nothing
abbrev pub Stays : {A : Type 0} → World → Out A → Type 0
Stays w (Go x u) = u ≡ w
Stays w (Stop outcome u) = Unit {0}

-- `x op= value` is `x = x op value`, or `x = x op (value)`, for each operator, a place x that is found without a change, and a value without one.
abbrev pub CompoundIsOperation : Type 0
CompoundIsOperation =
    (s : Setting) (token level operator : ℕ) (o : Binary) (compound plain : Sign) (x value right : ExprTree) (v : Scalar) (w : World) →
    AreSignsOfOperator o compound plain → is_place x ≡ true → KeepsType s.facts x → Stays w ((expr s x).place w) → IsOperand s o operator x value v w →
    IsWritten s.facts value right →
    (expr s (e.Assign token compound x value)).value w ≡ (expr s (assigned_operation token level operator plain x right)).value w

-- the same of a variable x, which is always found without a change
abbrev pub CompoundOfVariable : Type 0
CompoundOfVariable =
    (s : Setting) (token level operator at : ℕ) (name : List ℕ) (o : Binary) (compound plain : Sign) (value right : ExprTree) (v : Scalar) (w : World) →
    AreSignsOfOperator o compound plain → IsOperand s o operator (e.Name at name) value v w → IsWritten s.facts value right →
    (expr s (e.Assign token compound (e.Name at name) value)).value w
    ≡ (expr s (assigned_operation token level operator plain (e.Name at name) right)).value w

-- An assignment whose types fit meets what is asked of x.
abbrev pub TypedTargetMeets : Type 0
TypedTargetMeets =
    (s : Setting) (count token : ℕ) (assigns : Sign) (x value : ExprTree) → Typed s.facts s.sites count (e.Assign token assigns x value) →
    (is_place x ≡ true) × KeepsType s.facts x
