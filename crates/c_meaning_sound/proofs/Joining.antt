-- The operators of chains, and those before and behind operands: what the walk accepts of them fits.
use Rattle.std.proofs.Common.{◌≡◌, ◌≤◌, refl, ap, subst, sym, ◌∙◌, arith, List, Some, Bool, true, false}
use Rattle.std.specs.Prelude.{Option, ◌&&◌, ◌||◌}
use Rattle.std.proofs.lemmas.Bool.{false≢true, and_parts}
use Rattle.c_meaning_laws.proofs.Values.{number_value, pointing_value}
use Rattle.base_lists.proofs.Tests.{and_false}
use Rattle.cbi_base.specs.declared.operators.Binary.{Binary}
use Rattle.cbi_base.specs.declared.operators.Binary.TheVariants as op
use Rattle.cbi_base.specs.declared.operators.Order.TheVariants as order
use Rattle.cbi_base.specs.declared.scalar.Kind.TheVariants as kind
use Rattle.c_syntax.specs.declared.token.Sign.{Sign}
use Rattle.c_syntax.specs.declared.token.Sign.TheVariants as sign
use Rattle.c_syntax.specs.Words.{ExprTree, level_of}
use Rattle.c_types_rules.specs.declared.layout.StructType.{StructType}
use Rattle.c_types_rules.specs.declared.operand.Operand.{Operand}
use Rattle.c_types_rules.specs.TypeTree as t
use Rattle.c_types_rules.specs.Words.{TypeTree, pointers_join, pointers_meet, is_arithmetic, is_pointer, both_arithmetic, value_if_operands_fit}
use Rattle.c_types_rules.specs.Words.{is_scalar_value, joined_truths}
use Rattle.c_types_rules.specs.Conversions as rule
use Rattle.c_types_expressions.specs.ExprWalk.{binary_of, typed_chain_operation}
use Rattle.c_meaning.specs.declared.operation.Operation.{Operation}
use Rattle.c_meaning.specs.declared.operation.Operation.TheVariants.{Numbers, MoveLeft, MoveRight, Span, Ordered, Wrong}
use Rattle.c_meaning.specs.declared.value_type.ValueType.{ValueType}
use Rattle.c_meaning.specs.declared.value_type.ValueType.TheVariants as type
use Rattle.c_meaning.specs.Conversions as mean
use Rattle.c_meaning.specs.Words.{is_null_constant, operation, is_null_beside, joint_of_sign, operand_type}
use Rattle.c_meaning_laws.specs.Rules.{IsValue, Joins, Operates}
use Rattle.c_meaning_laws.proofs.Ruled.{Is, arithmetic_number, gives_by, known, pointer_pointing, scalar_usable}
use Rattle.c_meaning_laws.proofs.RuledOperators.{IsNoEquality, StepsKnown, combined_fits, equated_fits}

-- a null constant beside a value of this type is a null pointer, where equality compares the two
abbrev pub null_beside : Option Binary → Option ValueType → Bool → Bool
null_beside (Some op.Eq) other null = mean.is_pointer_value other && null
null_beside (Some op.Ne) other null = mean.is_pointer_value other && null
null_beside o other null = false

pub beside_is : (o : Option Binary) (other : Option ValueType) (x : ExprTree) (null : Bool) → is_null_constant x ≡ null
    → is_null_beside o other x ≡ null_beside o other null
beside_is (Some op.Eq) other x null h = ap (λ b. mean.is_pointer_value other && b) h
beside_is (Some op.Ne) other x null h = ap (λ b. mean.is_pointer_value other && b) h
beside_is o other x null h = refl

pub no_null_beside : (o : Option Binary) (other : Option ValueType) → null_beside o other false ≡ false
no_null_beside (Some op.Eq) other = and_false (mean.is_pointer_value other)
no_null_beside (Some op.Ne) other = and_false (mean.is_pointer_value other)
no_null_beside o other = refl

equal_value : (u v : Option ValueType) → u ≡ v → IsValue v → IsValue u
equal_value u v e h = subst IsValue (sym e) h

-- what an operation takes are values
operands_values : (o : Operation) (u v w : Option ValueType) → Operates o u v w → IsValue u × IsValue v
operands_values (Numbers o l r) u v w h = (equal_value u (Some (type.Number l)) h.0 tt, equal_value v (Some (type.Number r)) h.1 tt)
operands_values (MoveLeft size) u v w h = (pointing_value u h.0, number_value v h.1)
operands_values (MoveRight size) u v w h = (number_value u h.0, pointing_value v h.1)
operands_values (Span size) u v w h = (pointing_value u h.0, pointing_value v h.1)
operands_values (Ordered o) u v w h = (pointing_value u h.0, pointing_value v h.1)
operands_values Wrong u v w h = absurd h

module _ (structs : List StructType) (x y : Operand) where
  abbrev NullValue : Operand → Type 0
  NullValue a = a.null ≡ true → IsValue (known structs a.ctype)

  -- operands that an equality compares are values
  joined_values : (m p q n o : Bool) → is_pointer (rule.value_type x) ≡ p → is_pointer (rule.value_type y) ≡ q → x.null ≡ n → y.null ≡ o
      → (m ≡ true → (p ≡ true) × (q ≡ true)) → NullValue x → NullValue y → (m || (p && o) || (q && n)) ≡ true
      → IsValue (known structs x.ctype) × IsValue (known structs y.ctype)
  joined_values true p q n o e f g i k r s h = (left (e ∙ (k refl).0), right (f ∙ (k refl).1))
    where
      left : is_pointer (rule.value_type x) ≡ true → IsValue (known structs x.ctype)
      left h = pointing_value (known structs x.ctype) (pointer_pointing structs x.ctype h)

      right : is_pointer (rule.value_type y) ≡ true → IsValue (known structs y.ctype)
      right h = pointing_value (known structs y.ctype) (pointer_pointing structs y.ctype h)
  joined_values false true q n true e f g i k r s h = (pointing_value (known structs x.ctype) (pointer_pointing structs x.ctype e), s i)
  joined_values false true true true false e f g i k r s h = (r g, pointing_value (known structs y.ctype) (pointer_pointing structs y.ctype f))
  joined_values false false true true o e f g i k r s h = (r g, pointing_value (known structs y.ctype) (pointer_pointing structs y.ctype f))
  joined_values false true true false false e f g i k r s h = absurd (false≢true h)
  joined_values false true false n false e f g i k r s h = absurd (false≢true h)
  joined_values false false true false o e f g i k r s h = absurd (false≢true h)
  joined_values false false false n o e f g i k r s h = absurd (false≢true h)

  meets_both : rule.is_pointer (rule.value_type x) && rule.is_pointer (rule.value_type y) ≡ true
      → (is_pointer (rule.value_type x) ≡ true) × (is_pointer (rule.value_type y) ≡ true)
  meets_both h = and_parts (is_pointer (rule.value_type x)) (is_pointer (rule.value_type y)) h

  join_values : NullValue x → NullValue y → pointers_join x y ≡ true → IsValue (known structs x.ctype) × IsValue (known structs y.ctype)
  join_values r s h = joined_values (pointers_meet (rule.value_type x) (rule.value_type y)) (is_pointer (rule.value_type x)) (is_pointer (rule.value_type y))
      x.null y.null refl refl refl refl (λ e. meets_both (and_parts (is_pointer (rule.value_type x) && is_pointer (rule.value_type y)) _ e).0) r s h

  equal_values : (b : Bool) → both_arithmetic (rule.value_type x) (rule.value_type y) ≡ b → NullValue x → NullValue y → (b || pointers_join x y) ≡ true
      → IsValue (known structs x.ctype) × IsValue (known structs y.ctype)
  equal_values true e r s h =
      let p : (is_arithmetic (rule.value_type x) ≡ true) × (is_arithmetic (rule.value_type y) ≡ true) =
      and_parts (is_arithmetic (rule.value_type x)) (is_arithmetic (rule.value_type y)) e in (
        number_value (known structs x.ctype) (arithmetic_number structs x.ctype p.0),
        number_value (known structs y.ctype)
            (arithmetic_number structs y.ctype p.1),
      )
  equal_values false e r s h = join_values r s h

-- the operator of a chain fits, and its operands are values
abbrev pub LinkFits : List StructType → Sign → Operand → Operand → Operand → Type 0
LinkFits structs s x y a =
    let left : Option ValueType = operand_type (null_beside (binary_of s) (known structs y.ctype) x.null) (known structs x.ctype) in
    IsValue (known structs x.ctype) × IsValue (known structs y.ctype)
    × Joins (joint_of_sign s) left (operand_type (null_beside (binary_of s) left y.null) (known structs y.ctype)) (known structs a.ctype)

module _ (structs : List StructType) (x y a : Operand) (s : StepsKnown structs x.ctype) (r : StepsKnown structs y.ctype) (m : NullValue structs x y x)
    (n : NullValue structs x y y) where
  computed : (o : Binary) → IsNoEquality o → Is (typed_chain_operation structs (Some o) x y) a
      → IsValue (known structs x.ctype) × IsValue (known structs y.ctype)
      × Operates (operation o (known structs x.ctype) (known structs y.ctype)) (known structs x.ctype) (known structs y.ctype) (known structs a.ctype)
  computed o e h =
      let k : Operates (operation o (known structs x.ctype) (known structs y.ctype)) (known structs x.ctype) (known structs y.ctype) (known structs a.ctype) =
      combined_fits structs o e x y a s r h in
      let l : IsValue (known structs x.ctype) × IsValue (known structs y.ctype) =
      operands_values (operation o (known structs x.ctype) (known structs y.ctype)) (known structs x.ctype) (known structs y.ctype) (known structs a.ctype) k in
      (l.0, l.1, k)

  compared : Is (value_if_operands_fit (both_arithmetic (rule.value_type x) (rule.value_type y) || pointers_join x y) t.Int) a
      → IsValue (known structs x.ctype) × IsValue (known structs y.ctype)
  compared h = gives_by (λ z. IsValue (known structs x.ctype) × IsValue (known structs y.ctype))
      (both_arithmetic (rule.value_type x) (rule.value_type y) || pointers_join x y) t.Int a
      (λ e. equal_values structs x y (both_arithmetic (rule.value_type x) (rule.value_type y)) refl m n e) h

  both_scalar : Is (joined_truths x y) a → IsValue (known structs x.ctype) × IsValue (known structs y.ctype) × (known structs a.ctype ≡ Some (type.Number kind.Int))
  both_scalar h = gives_by (λ z. IsValue (known structs x.ctype) × IsValue (known structs y.ctype) × (known structs z.ctype ≡ Some (type.Number kind.Int)))
      (is_scalar_value x && is_scalar_value y) t.Int a
      (λ e. (
        scalar_usable structs x.ctype (and_parts (is_scalar_value x) (is_scalar_value y) e).0,
        scalar_usable structs y.ctype (and_parts (is_scalar_value x)
            (is_scalar_value y) e).1,
        refl,
      )) h

  pub link_fits : (sign : Sign) → 1 ≤ level_of sign → Is (typed_chain_operation structs (binary_of sign) x y) a → LinkFits structs sign x y a
  link_fits sign.OrOr l h = both_scalar h
  link_fits sign.AndAnd l h = both_scalar h
  link_fits sign.Bar l h = computed op.Or tt h
  link_fits sign.Caret l h = computed op.Xor tt h
  link_fits sign.Ampersand l h = computed op.And tt h
  link_fits sign.Less l h = computed op.Lt tt h
  link_fits sign.Greater l h = computed op.Gt tt h
  link_fits sign.LessEqual l h = computed op.Le tt h
  link_fits sign.GreaterEqual l h = computed op.Ge tt h
  link_fits sign.ShiftLeft l h = computed op.Shl tt h
  link_fits sign.ShiftRight l h = computed op.Shr tt h
  link_fits sign.Plus l h = computed op.Add tt h
  link_fits sign.Minus l h = computed op.Sub tt h
  link_fits sign.Star l h = computed op.Mul tt h
  link_fits sign.Slash l h = computed op.Div tt h
  link_fits sign.Percent l h = computed op.Rem tt h
  link_fits sign.EqualEqual l h =
      let k : IsValue (known structs x.ctype) × IsValue (known structs y.ctype) = compared h in
      (k.0, k.1, equated_fits structs op.Eq order.Eq (λ size. refl) (λ k. refl) x y a h)
  link_fits sign.NotEqual l h =
      let k : IsValue (known structs x.ctype) × IsValue (known structs y.ctype) = compared h in
      (k.0, k.1, equated_fits structs op.Ne order.Ne (λ size. refl) (λ k. refl) x y a h)
  link_fits sign l h = absurd (omega (arith, l))
