-- What a constant gives to a global.
use Rattle.std.proofs.Common.{◌≡◌, ℕ, ℤ, false, Option, Result, Ok, Err, refl, sym, ap, ◌∙◌}
use Rattle.std.proofs.Math.Bool.{and-false}
use Rattle.cbi_base.specs.declared.operators.Unary.TheVariants.{Neg}
use Rattle.cbi_base.specs.declared.scalar.Kind.{Kind}
use Rattle.cbi_base.specs.declared.scalar.Scalar.{Scalar}
use Rattle.cbi_base.specs.declared.scalar.Scalar.TheVariants.{Number}
use Rattle.cbi_base.specs.declared.trap.Trap.{Trap}
use Rattle.cbi_base.specs.Scalars.{applied_to_one}
use Rattle.c_syntax.specs.declared.expr.PrefixOperator.TheVariants.{Minus}
use Rattle.c_syntax.specs.declared.expr.Expr.{Expr}
use Rattle.c_syntax.specs.declared.expr.Expr.TheVariants as variant
use Rattle.c_syntax.specs.ExprTree as e
use Rattle.c_syntax.specs.Words.{ExprTree, plain_expr}
use Rattle.c_syntax.proofs.PlainExprs.{plain_constant}
use Rattle.c_meaning.specs.declared.conversion.Conversion.{Conversion}
use Rattle.c_meaning.specs.declared.value_type.ValueType.{ValueType}
use Rattle.c_meaning.specs.Words.{as_wanted, conversion, conversion_result, is_null_as, is_pointer_value, wanted_value, Facts, before_all, constant_value, given_by, empty_world}
use Rattle.c_meaning.specs.Words.{expr, type_of, Go, answer_or_trap, bind}
use Rattle.lower_globals.specs.Cells.{given_scalar, negated_constant, negated_if_some, converted_if_some}

given_answered : (r : Result Scalar Trap) → given_by (answer_or_trap r empty_world) ≡ given_scalar r
given_answered (Ok v) = refl
given_answered (Err t) = refl

module _ (facts : Facts) (of : Option ValueType) (x : ExprTree) where
  by_value : is_null_as of x ≡ false → constant_value facts of x ≡ given_by (bind ((expr (before_all facts) x).value empty_world) (as_wanted (conversion (type_of facts x) of)))
  by_value h = ap (λ b. given_by (wanted_value b (type_of facts x) of (expr (before_all facts) x) empty_world)) h

  -- any other expression, by its value
  pub as_value : (v : Scalar) → is_null_as of x ≡ false → (expr (before_all facts) x).value empty_world ≡ Go v empty_world →
      constant_value facts of x ≡ given_scalar (conversion_result (conversion (type_of facts x) of) v)
  as_value v h is =
      by_value h ∙ ap (λ m. given_by (bind m (as_wanted (conversion (type_of facts x) of)))) is ∙ given_answered (conversion_result (conversion (type_of facts x) of) v)

then_wanted : (c : Conversion) (r : Result Scalar Trap) → given_by (bind (answer_or_trap r empty_world) (as_wanted c)) ≡ converted_if_some c (given_scalar r)
then_wanted c (Ok v) = given_answered (conversion_result c v)
then_wanted c (Err t) = refl

then_negated : (c : Conversion) (r : Result Scalar Trap) →
    given_by (bind (bind (answer_or_trap r empty_world) (λ y u. answer_or_trap (applied_to_one Neg y) u)) (as_wanted c)) ≡ converted_if_some c (negated_if_some (given_scalar r))
then_negated c (Ok v) = then_wanted c (applied_to_one Neg v)
then_negated c (Err t) = refl

-- a constant behind a `-`
pub as_negative : (facts : Facts) (of : Option ValueType) (token inner : ℕ) (kind : Kind) (value : ℤ) →
    constant_value facts of (e.Prefix token Minus (e.Constant inner kind value))
    ≡ negated_constant (conversion (facts.type_at inner) (facts.type_at token)) (conversion (facts.type_at token) of) (Number kind value)
as_negative facts of token inner kind value =
    by_value facts of (e.Prefix token Minus (e.Constant inner kind value)) (and-false (is_pointer_value of))
    ∙ then_negated (conversion (facts.type_at token) of) (conversion_result (conversion (facts.type_at inner) (facts.type_at token)) (Number kind value))

abbrev negative_from : Facts → ℕ → ℕ → Kind → ℤ → Conversion → Option Scalar
negative_from facts inner token kind value second = negated_constant (conversion (facts.type_at inner) (facts.type_at token)) second (Number kind value)

-- an operand that is a constant behind a `-`, with the types as they were found
pub minus_is : (facts : Facts) (of : Option ValueType) (token : ℕ) (x : Expr) (inner : ℕ) (kind : Kind) (value : ℤ) (own other : Option ValueType)
    (first second : Conversion) (v : Option Scalar) → x ≡ variant.Constant inner kind value → own ≡ facts.type_at token → other ≡ facts.type_at inner →
    first ≡ conversion other own → second ≡ conversion own of → v ≡ negated_constant first second (Number kind value) →
    v ≡ constant_value facts of (e.Prefix token Minus (plain_expr x))
minus_is facts of token x inner kind value own other first second v is_x is_own is_other is_first is_second is =
    is
    ∙ ap (λ c. negated_constant c second (Number kind value)) (is_first ∙ ap (λ t. conversion t own) is_other ∙ ap (conversion (facts.type_at inner)) is_own)
    ∙ ap (negative_from facts inner token kind value) (is_second ∙ ap (λ t. conversion t of) is_own)
    ∙ sym (ap (λ y. constant_value facts of (e.Prefix token Minus y)) (ap plain_expr is_x ∙ plain_constant inner kind value) ∙ as_negative facts of token inner kind value)
