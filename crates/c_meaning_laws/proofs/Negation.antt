-- `!` of a value, and what `==` says of it and zero.
use Rattle.std.proofs.Common.{◌≡◌, ℕ, ℤ, pos, Bool, true, false, not, Option, Some, Result, Ok, refl, ap, arith, sym, ◌∙◌, subst}
use Rattle.std.proofs.lemmas.Int.{ints}
use Rattle.std.proofs.lemmas.Bool.{false≢true}
use Rattle.std.proofs.lemmas.Cmp.{int_eq_equiv}
use Rattle.std.specs.Ordering.{int_eq}
use Rattle.cbi_base.specs.declared.operators.Binary.TheVariants as op
use Rattle.cbi_base.specs.declared.operators.Order.TheVariants as order
use Rattle.cbi_base.specs.declared.operators.Unary.TheVariants as unary
use Rattle.cbi_base.specs.declared.scalar.Kind.{Kind}
use Rattle.cbi_base.specs.declared.scalar.Kind.TheVariants.{Char, Int, Unsigned}
use Rattle.cbi_base.specs.declared.scalar.Scalar.{Scalar}
use Rattle.cbi_base.specs.declared.scalar.Scalar.TheVariants.{Number, Place, Null, Undefined}
use Rattle.cbi_base.specs.declared.trap.Trap.{Trap}
use Rattle.cbi_base.specs.Words.{truth_number, LiesIn, wrapped_value, Objects, pointer_comparison, operator_applied, applied_to_one, converted_number}
use Rattle.c_values.proofs.Modulo.{wrapped-inside}
use Rattle.c_values.proofs.Ranges.{LiesIn-ends, ends-LiesIn}
use Rattle.c_syntax.specs.ExprTree as e
use Rattle.c_syntax.specs.ExprTree.{ExprTree}
use Rattle.c_meaning.specs.declared.operation.Operation.TheVariants.{Numbers, Ordered}
use Rattle.c_meaning.specs.declared.value_type.ValueType.{ValueType}
use Rattle.c_meaning.specs.declared.value_type.ValueType.TheVariants as type
use Rattle.c_meaning.specs.Words.{is_null_as, is_null_constant, Sense, value_after_link, null_or, Setting, expr, operation_result, operation, Computes, operand_type, type_of}
use Rattle.c_meaning.specs.Words.{World, Out, Go, Stop, answer_or_trap, bind}
use Rattle.c_meaning_laws.specs.Constants.{zero_at}
use Rattle.c_meaning_laws.specs.Negation.{IsValueOfType, NotIsEqualsZero}
use Rattle.c_meaning_laws.proofs.Parts.{bind_go}
use Rattle.c_meaning_laws.proofs.Places.{written}

twice : (b : Bool) → not (not b) ≡ b
twice true = refl
twice false = refl

same_flag : (n : ℤ) → Number Int (truth_number (int_eq (pos 0) n)) ≡ Number Int (truth_number (not (not (int_eq n (pos 0)))))
same_flag n = ap (λ b. Number Int (truth_number b)) (int_eq_equiv.symm (pos 0) n ∙ sym (twice (int_eq n (pos 0))))

char_inside : (n : ℤ) → LiesIn Char n → wrapped_value Int n ≡ n
char_inside n h = let ends = LiesIn-ends Char n h in wrapped-inside Int n (ends-LiesIn Int n (omega (arith, ints)) (omega (arith, ints)))

-- what `0 == n` gives
abbrev equals_zero : ℤ → Result Scalar Trap
equals_zero n = Ok (Number Int (truth_number (int_eq (pos 0) n)))

-- numbers
in_kind : (k : Kind) (n : ℤ) (o : Objects) → LiesIn k n
    → operation_result (Numbers op.Eq Int k) (Number Int (pos 0)) (Number k n) o ≡ applied_to_one unary.Not (Number k n)
unfolding operation_result operator_applied converted_number applied_to_one
in_kind Int n o h = ap Ok (same_flag n)
in_kind Unsigned n o h = ap Ok (same_flag n)
in_kind Char n o h = ap equals_zero (char_inside n h) ∙ ap Ok (same_flag n)

of_number : (k : Kind) (v : Scalar) (o : Objects) → IsValueOfType (Some (type.Number k)) v
    → operation_result (Numbers op.Eq Int k) (Number Int (pos 0)) v o ≡ applied_to_one unary.Not v
unfolding operation_result operator_applied converted_number applied_to_one
of_number k (Number other n) o h =
    subst (λ j. operation_result (Numbers op.Eq Int k) (Number Int (pos 0)) (Number j n) o ≡ applied_to_one unary.Not (Number j n)) (sym h.0) (in_kind k n o h.1)
of_number Int Undefined o h = refl
of_number Unsigned Undefined o h = refl
of_number Char Undefined o h = refl
of_number k (Place a i) o h = absurd h
of_number k Null o h = absurd h

-- pointers
of_pointer : (v : Scalar) (o : Objects) → IsValueOfType (Some (type.Pointer 0)) v → operation_result (Ordered order.Eq) Null v o ≡ applied_to_one unary.Not v
unfolding operation_result pointer_comparison applied_to_one
of_pointer (Number k n) o h = absurd h
of_pointer v o h = refl

array_pointer : (size : ℕ) (v : Scalar) → IsValueOfType (Some (type.Array size)) v → IsValueOfType (Some (type.Pointer 0)) v
array_pointer size (Place a i) h = tt
array_pointer size Null h = absurd h
array_pointer size Undefined h = tt
array_pointer size (Number k n) h = absurd h

any_pointer : (size : ℕ) (v : Scalar) → IsValueOfType (Some (type.Pointer size)) v → IsValueOfType (Some (type.Pointer 0)) v
any_pointer size (Number k n) h = absurd h
any_pointer size v h = tt

module _ (s : Setting) (right : ExprTree) (w : World) where
  -- where it gives a value, that is one of this type
  abbrev Gives : Option ValueType → Type 0
  Gives of = (v : Scalar) (u : World) → (expr s right).value w ≡ Go v u → IsValueOfType of v

  -- a null constant that is a pointer is `NULL`
  null_given : (x : ExprTree) → is_null_constant x ≡ true → ((v : Scalar) (u : World) → (expr s x).value w ≡ Go v u → IsValueOfType (Some (type.Pointer 0)) v)
      → null_or true (expr s x) w ≡ (expr s x).value w
  null_given (e.Null token) is gives = refl
  null_given (e.Constant token kind value) is gives = absurd (gives (Number kind value) w refl)
  null_given x is gives = absurd (false≢true is)

  null_value : (b : Bool) → is_null_constant right ≡ b → Gives (Some (type.Pointer 0)) → null_or b (expr s right) w ≡ (expr s right).value w
  null_value true is gives = null_given right is gives
  null_value false is gives = refl

  abbrev negated : Out Scalar
  negated = bind ((expr s right).value w) (λ v u. answer_or_trap (applied_to_one unary.Not v) u)

  -- zero, or null, compared with the right side
  abbrev by_types : Option ValueType → Option ValueType → Out Scalar
  by_types of constant =
      bind (null_or (is_null_as of (zero_at 0)) (expr s (zero_at 0)) w) (λ v u.
      bind (value_after_link s (Computes op.Eq) 0 (operand_type (is_null_as of (zero_at 0)) constant)
      (operand_type (is_null_as (operand_type (is_null_as of (zero_at 0)) constant) right) of)
      (null_or (is_null_as (operand_type (is_null_as of (zero_at 0)) constant) right) (expr s right)) v u) (λ x. Go x))

  ended : (out : Out Scalar) (f : Scalar → Objects → Result Scalar Trap)
      → ((v : Scalar) (u : World) → out ≡ Go v u → f v u.objects ≡ applied_to_one unary.Not v)
      → bind (bind out (λ v u. answer_or_trap (f v u.objects) u)) (λ x. Go x) ≡ bind out (λ v u. answer_or_trap (applied_to_one unary.Not v) u)
  ended (Go v u) f h = bind_go (answer_or_trap (f v u.objects) u) ∙ ap (λ r. answer_or_trap r u) (h v u refl)
  ended (Stop outcome u) f h = refl

  pointed_to : (b : Bool) (of : Option ValueType) → is_null_constant right ≡ b → operation op.Eq (Some (type.Pointer 0)) (operand_type b of) ≡ Ordered order.Eq
      → Gives (Some (type.Pointer 0))
      → bind (bind (null_or b (expr s right) w) (λ v u.
      answer_or_trap (operation_result (operation op.Eq (Some (type.Pointer 0)) (operand_type b of)) Null v u.objects) u)) (λ x. Go x) ≡ negated
  pointed_to b of is same gives =
      ap (λ out. bind (bind out (λ v u. answer_or_trap (operation_result (operation op.Eq (Some (type.Pointer 0)) (operand_type b of)) Null v u.objects) u)) (λ x. Go x))
      (null_value b is gives)
      ∙ ap (λ o. bind (bind ((expr s right).value w) (λ v u. answer_or_trap (operation_result o Null v u.objects) u)) (λ x. Go x)) same
      ∙ ended ((expr s right).value w) (operation_result (Ordered order.Eq) Null) (λ v u h. of_pointer v u.objects (gives v u h))

  ordered_pointer : (b : Bool) (size : ℕ) → operation op.Eq (Some (type.Pointer 0)) (operand_type b (Some (type.Pointer size))) ≡ Ordered order.Eq
  ordered_pointer true size = refl
  ordered_pointer false size = refl

  ordered_array : (b : Bool) (size : ℕ) → operation op.Eq (Some (type.Pointer 0)) (operand_type b (Some (type.Array size))) ≡ Ordered order.Eq
  ordered_array true size = refl
  ordered_array false size = refl

  of_type : (of : Option ValueType) → Gives of → by_types of (Some (type.Number Int)) ≡ negated
  of_type (Some (type.Number k)) gives =
      ended ((expr s right).value w) (operation_result (Numbers op.Eq Int k) (Number Int (pos 0))) (λ v u h. of_number k v u.objects (gives v u h))
  of_type (Some (type.Pointer size)) gives =
      pointed_to (is_null_constant right) (Some (type.Pointer size)) refl (ordered_pointer (is_null_constant right) size)
      (λ v u h. any_pointer size v (gives v u h))
  of_type (Some (type.Array size)) gives =
      pointed_to (is_null_constant right) (Some (type.Array size)) refl (ordered_array (is_null_constant right) size)
      (λ v u h. array_pointer size v (gives v u h))
  of_type of gives = ended ((expr s right).value w) _ (λ v u h. absurd (gives v u h))

pub not_is_equals_zero : NotIsEqualsZero
not_is_equals_zero s token level constant equals x right w int gives paren =
    let same : (expr s right ≡ expr s x) × (type_of s.facts right ≡ type_of s.facts x) = written s x right paren in
    ap (λ (m : Sense). bind (m.value w) (λ v u. answer_or_trap (applied_to_one unary.Not v) u)) (sym same.0)
    ∙ sym (of_type s right w (type_of s.facts right) (λ v u h.
    subst (λ of. IsValueOfType of v) (sym same.1) (gives v u (ap (λ (m : Sense). m.value w) (sym same.0) ∙ h))))
    ∙ ap (by_types s right w (type_of s.facts right)) (sym int)
