-- An undefined operand, and nothing else, is trap Undefined.
use Rattle.std.proofs.Common.{◌≡◌, ◌⊎◌, inl, inr, ◌↔◌, refl, ℤ, Bool, true, false, cond, Result, Ok, Err}
use Rattle.cbi_base.specs.declared.scalar.Kind.{Kind}
use Rattle.cbi_base.specs.declared.scalar.Kind.TheVariants.{Char, Int, Unsigned}
use Rattle.cbi_base.specs.declared.scalar.Scalar.{Scalar}
use Rattle.cbi_base.specs.declared.scalar.Scalar.TheVariants.{Number, Place, Null, Undefined}
use Rattle.cbi_base.specs.declared.operators.Binary.{Binary}
use Rattle.cbi_base.specs.declared.operators.Binary.TheVariants.{Add, Sub, Mul, Div, Rem, Shl, Shr}
use Rattle.cbi_base.specs.declared.operators.Unary.{Unary}
use Rattle.cbi_base.specs.declared.operators.Unary.TheVariants.{Neg, Com, Not}
use Rattle.cbi_base.specs.declared.trap.Trap.{Trap}
use Rattle.cbi_base.specs.declared.trap.Trap.TheVariants as trap
use Rattle.cbi_base.specs.Words.{fitted_value, left_shift, binary_value, kind_given, complement, as_number, as_promoted, has_operand_kinds, operator_applied, applied_to_one, converted_number}
use Rattle.cbi_base.specs.Words.{truth_of}

-- a value, or another trap
abbrev IsOther : Result ℤ Trap → Type 0
IsOther value = ¬ (value ≡ Err trap.Undefined)

guarded : (test : Bool) (value : ℤ) (stop : Trap) → ¬ (stop ≡ trap.Undefined) → IsOther (cond test (Ok value) (Err stop))
guarded true value stop h e = cc
guarded false value stop h e = h (cc)

checked : (test : Bool) (value : Result ℤ Trap) (stop : Trap) → ¬ (stop ≡ trap.Undefined) → IsOther value →
    IsOther (cond test (Err stop) value)
checked true value stop h k e = h (cc)
checked false value stop h k e = k e

fitted_other : (kind : Kind) (exact : ℤ) → IsOther (fitted_value kind exact)
fitted_other Char exact = guarded _ exact trap.Overflow (λ e. cc)
fitted_other Int exact = guarded _ exact trap.Overflow (λ e. cc)
fitted_other Unsigned exact = λ e. cc

left_other : (kind : Kind) (left count : ℤ) → IsOther (left_shift kind left count)
left_other Char left count = guarded _ _ trap.Shift (λ e. cc)
left_other Int left count = guarded _ _ trap.Shift (λ e. cc)
left_other Unsigned left count = guarded _ _ trap.Shift (λ e. cc)

binary_other : (op : Binary) (kind : Kind) (left right : ℤ) → IsOther (binary_value op kind left right)
binary_other Add kind left right = fitted_other kind _
binary_other Sub kind left right = fitted_other kind _
binary_other Mul kind left right = fitted_other kind _
binary_other Div kind left right = checked _ _ trap.Divide (λ e. cc) (fitted_other kind _)
binary_other Rem kind left right = checked _ _ trap.Divide (λ e. cc) (guarded _ _ trap.Overflow (λ e. cc))
binary_other Shl kind left right = left_other kind left right
binary_other Shr kind left right = guarded _ _ trap.Shift (λ e. cc)
binary_other op kind left right = λ e. cc

numbered_other : (kind : Kind) (value : Result ℤ Trap) → IsOther value → ¬ (as_number kind value ≡ Err trap.Undefined)
numbered_other kind (Ok value) h e = cc
numbered_other kind (Err t) h e = h (cc)

taken_other : (fits : Bool) (kind : Kind) (value : Result ℤ Trap) → IsOther value →
    ¬ (cond fits (as_number kind value) (Err trap.Internal) ≡ Err trap.Undefined)
taken_other true kind value h e = numbered_other kind value h e
taken_other false kind value h e = cc

only : (op : Binary) (left right : Scalar) → operator_applied op left right ≡ Err trap.Undefined → (left ≡ Undefined) ⊎ (right ≡ Undefined)
unfolding operator_applied
only op Undefined right e = inl refl
only op (Number kind a) Undefined e = inr refl
only op (Place object offset) Undefined e = inr refl
only op Null Undefined e = inr refl
only op (Number kind a) (Number other b) e =
    absurd (taken_other (has_operand_kinds op kind other) (kind_given op kind) (binary_value op kind a b) (binary_other op kind a b) e)
only op left right e = cc

undefined_left : (op : Binary) (left right : Scalar) → left ≡ Undefined → operator_applied op left right ≡ Err trap.Undefined
unfolding operator_applied
undefined_left op left right e = rw e refl

undefined_right : (op : Binary) (left right : Scalar) → right ≡ Undefined → operator_applied op left right ≡ Err trap.Undefined
unfolding operator_applied
undefined_right op Undefined right e = refl
undefined_right op left right e = rw e refl

pub applied-Undefined : (op : Binary) (left right : Scalar) →
    (operator_applied op left right ≡ Err trap.Undefined) ↔ ((left ≡ Undefined) ⊎ (right ≡ Undefined))
applied-Undefined op left right =
    let back : (left ≡ Undefined) ⊎ (right ≡ Undefined) → operator_applied op left right ≡ Err trap.Undefined =
    λ h. elim h [ inl e ↦ undefined_left op left right e | inr e ↦ undefined_right op left right e ] in
    (only op left right, back)

promoted_other : (kind : Kind) (value : Result ℤ Trap) → IsOther value → ¬ (as_promoted kind value ≡ Err trap.Undefined)
promoted_other Char value h e = cc
promoted_other Int value h e = numbered_other Int value h e
promoted_other Unsigned value h e = numbered_other Unsigned value h e

pub applied_to_one-Undefined : (op : Unary) (value : Scalar) →
    (applied_to_one op value ≡ Err trap.Undefined) ↔ (value ≡ Undefined)
unfolding applied_to_one
applied_to_one-Undefined Neg (Number kind a) = (λ e. absurd (promoted_other kind _ (fitted_other kind _) e), λ e. cc)
applied_to_one-Undefined Com (Number kind a) = (λ e. absurd (promoted_other kind (Ok (complement kind a)) (λ f. cc) e), λ e. cc)
applied_to_one-Undefined Neg Undefined = (λ e. refl, λ e. refl)
applied_to_one-Undefined Com Undefined = (λ e. refl, λ e. refl)
applied_to_one-Undefined Not Undefined = (λ e. refl, λ e. refl)
applied_to_one-Undefined op value = (λ e. cc, λ e. cc)

pub converted-Undefined : (kind : Kind) (value : Scalar) → (converted_number kind value ≡ Err trap.Undefined) ↔ (value ≡ Undefined)
unfolding converted_number
converted-Undefined kind Undefined = (λ e. refl, λ e. refl)
converted-Undefined kind value = (λ e. cc, λ e. cc)

pub truth_of-Undefined : (value : Scalar) → (truth_of value ≡ Err trap.Undefined) ↔ (value ≡ Undefined)
truth_of-Undefined Undefined = (λ e. refl, λ e. refl)
truth_of-Undefined value = (λ e. cc, λ e. cc)
