-- Values of types: conversions and calculations give values of their types, or trap.
use Rattle.std.proofs.Common.{◌≡◌, ℕ, refl, subst, Some, None, Ok, Err, Bool, true, false}
use Rattle.std.specs.Prelude.{Option, Result, ℤ, pos, neg_ℤ, if◌then◌else◌, ◌+ℤ◌, ◌-ℤ◌, ◌*ℤ◌, int_div, int_rem, int_le, ◌&&◌}
use Rattle.std.specs.Int.{int_div_euclid}
use Rattle.std.proofs.lemmas.Bool.{false≢true}
use Rattle.cbi_base.specs.declared.trap.Trap.{Trap}
use Rattle.cbi_base.specs.declared.trap.Trap.TheVariants as trap
use Rattle.cbi_base.specs.declared.scalar.Kind.{Kind}
use Rattle.cbi_base.specs.declared.scalar.Kind.TheVariants.{Char, Int, Unsigned}
use Rattle.cbi_base.specs.declared.scalar.Scalar.{Scalar}
use Rattle.cbi_base.specs.declared.scalar.Scalar.TheVariants.{Number, Place, Null, Undefined}
use Rattle.cbi_base.specs.declared.operators.Binary.{Binary}
use Rattle.cbi_base.specs.declared.operators.Binary.TheVariants as op
use Rattle.cbi_base.specs.declared.operators.Unary.TheVariants as unary
use Rattle.cbi_base.specs.Words.{fitted_value, left_shift, binary_value, kind_given, is_zero, is_count, two_to, wrapped_value, lies_in, truth_of, operator_applied, applied_to_one}
use Rattle.cbi_base.specs.Words.{converted_number, as_number, has_operand_kinds, is_defined_value}
use Rattle.c_types_rules.specs.Laws.{common_kind, promoted_kind}
use Rattle.c_meaning.specs.declared.value_type.ValueType.{ValueType}
use Rattle.c_meaning.specs.declared.value_type.ValueType.TheVariants as type
use Rattle.c_meaning.specs.Words.{as_wanted, kind_conversion, conversion, conversion_result, as_used, defined_scalar, handed_scalar, Sense, arm_as, arm_value, handed_value, is_other_pointer}
use Rattle.c_meaning.specs.Words.{wanted_value, left_kind, right_kind, truth_value}
use Rattle.c_meaning_laws.specs.Rules.{IsNumberType, IsPointer, IsPointing, IsPromoted, IsScalar, IsValue, TakesOrNull, TakesType}
use Rattle.c_meaning_laws.proofs.Safe.{Any, Calm, Safe, answers, calm_if, gives, seq, weaker}

-- a value of a type, or an undefined one
abbrev pub Fits : Option ValueType → Scalar → Type 0
Fits t Undefined = Unit {0}
Fits (Some (type.Number kind)) (Number other value) = kind ≡ other
Fits (Some (type.Pointer size)) (Place number offset) = Unit {0}
Fits (Some (type.Pointer size)) Null = Unit {0}
Fits (Some (type.Array size)) (Place number offset) = Unit {0}
Fits t v = ⊥

-- a place
abbrev pub IsAt : Scalar → Type 0
IsAt (Place number offset) = Unit {0}
IsAt v = ⊥

-- types
pub number_value : (t : Option ValueType) → IsNumberType t → IsValue t
number_value (Some (type.Number kind)) h = tt
number_value t h = absurd h

pub pointing_value : (t : Option ValueType) → IsPointing t → IsValue t
pointing_value (Some (type.Pointer size)) h = tt
pointing_value (Some (type.Array size)) h = tt
pointing_value t h = absurd h

pub scalar_value : (t : Option ValueType) → IsScalar t → IsValue t
scalar_value (Some (type.Number kind)) h = tt
scalar_value (Some (type.Pointer size)) h = tt
scalar_value t h = absurd h

pub taken_value : (t u : Option ValueType) → TakesType t u → IsValue u
taken_value (Some (type.Number kind)) (Some (type.Number other)) h = tt
taken_value (Some (type.Pointer size)) (Some (type.Pointer other)) h = tt
taken_value (Some (type.Pointer size)) (Some (type.Array other)) h = tt
taken_value t u h = absurd h

pub numbers_take : (t u : Option ValueType) → IsNumberType t → IsNumberType u → TakesType t u
numbers_take (Some (type.Number k)) (Some (type.Number j)) h i = tt
numbers_take (Some (type.Number k)) u h i = absurd i
numbers_take t u h i = absurd h

-- an argument of any type is taken as it is used
pub takes_itself : (t : Option ValueType) → IsValue t → TakesType (as_used t) t
takes_itself (Some (type.Number kind)) h = tt
takes_itself (Some (type.Pointer size)) h = tt
takes_itself (Some (type.Array size)) h = tt
takes_itself t h = absurd h

-- pointers
pub pointer_fits : (size : ℕ) (t : Option ValueType) (v : Scalar) → IsPointing t → Fits t v → Fits (Some (type.Pointer size)) v
pointer_fits size (Some (type.Pointer other)) (Number k n) h f = absurd f
pointer_fits size (Some (type.Array other)) (Number k n) h f = absurd f
pointer_fits size t (Number k n) h f = absurd h
pointer_fits size t v h f = tt

pub at_fits : (t : Option ValueType) (v : Scalar) → IsPointing t → IsAt v → Fits t v
at_fits (Some (type.Pointer size)) (Place a i) h k = tt
at_fits (Some (type.Array size)) (Place a i) h k = tt
at_fits t (Place a i) h k = absurd h
at_fits t v h k = absurd k

pub null_fits : (t : Option ValueType) → IsPointer t → Fits t Null
null_fits (Some (type.Pointer size)) h = tt
null_fits t h = absurd h

pub decayed_fits : (t : Option ValueType) (v : Scalar) → Fits t v → Fits (as_used t) v
decayed_fits (Some (type.Array size)) v f = pointer_fits size (Some (type.Array size)) v tt f
decayed_fits t v f = f

pub decayed_value : (t : Option ValueType) → IsValue (as_used t) → IsValue t
decayed_value (Some type.Void) h = h
decayed_value (Some type.Struct) h = h
decayed_value None h = h
decayed_value t h = tt

-- conversions
converted_calm : (have wanted : Kind) (v : Scalar) → Fits (Some (type.Number have)) v → Calm (Fits (Some (type.Number wanted))) (converted_number wanted v)
unfolding converted_number
converted_calm have wanted Undefined f = tt
converted_calm have wanted (Number k n) f = refl
converted_calm have wanted Null f = absurd f
converted_calm have wanted (Place a i) f = absurd f

pub between_calm : (have wanted : Kind) (v : Scalar) → Fits (Some (type.Number have)) v → Calm (Fits (Some (type.Number wanted)))
    (conversion_result (kind_conversion have wanted) v)
between_calm Char Char v f = f
between_calm Int Int v f = f
between_calm Unsigned Unsigned v f = f
between_calm Char Int v f = converted_calm Char Int v f
between_calm Char Unsigned v f = converted_calm Char Unsigned v f
between_calm Int Char v f = converted_calm Int Char v f
between_calm Int Unsigned v f = converted_calm Int Unsigned v f
between_calm Unsigned Char v f = converted_calm Unsigned Char v f
between_calm Unsigned Int v f = converted_calm Unsigned Int v f

taken_calm : (t u : Option ValueType) (v : Scalar) → TakesType t u → Fits u v → Calm (Fits t) (conversion_result (conversion u t) v)
taken_calm (Some (type.Number kind)) (Some (type.Number other)) v h f = between_calm other kind v f
taken_calm (Some (type.Pointer size)) (Some (type.Pointer other)) v h f = pointer_fits size (Some (type.Pointer other)) v tt f
taken_calm (Some (type.Pointer size)) (Some (type.Array other)) v h f = pointer_fits size (Some (type.Array other)) v tt f
taken_calm t u v h f = absurd h

-- a value where one of another type is wanted
pub wanted_safe : (t u : Option ValueType) (v : Scalar) → TakesType t u → Fits u v → Safe (Fits t) (as_wanted (conversion u t) v) (as_wanted (conversion u t) v)
wanted_safe t u v h f = answers (λ w. conversion_result (conversion u t) v) (λ w. refl) (λ w. taken_calm t u v h f)

-- a value that is handed over is defined
abbrev pub Given : Option ValueType → Scalar → Type 0
Given t v = Fits t v × (is_defined_value v ≡ true)

defined_calm : (t : Option ValueType) (v : Scalar) → Fits t v → Calm (Given t) (defined_scalar v)
defined_calm t Undefined f = tt
defined_calm t v f = (f, refl)

handed_number : (have wanted : Kind) (v : Scalar) → Fits (Some (type.Number have)) v → Calm (Given (Some (type.Number wanted))) (converted_number wanted v)
unfolding converted_number
handed_number have wanted Undefined f = tt
handed_number have wanted (Number k n) f = (refl, refl)
handed_number have wanted Null f = absurd f
handed_number have wanted (Place a i) f = absurd f

pub handed_safe : (t u : Option ValueType) (v : Scalar) → TakesType t u → Fits u v → Safe (Given t) (handed_scalar t v) (handed_scalar t v)
handed_safe (Some (type.Number kind)) (Some (type.Number other)) v h f = answers (λ w. converted_number kind v) (λ w. refl) (λ w. handed_number other kind v f)
handed_safe (Some (type.Pointer size)) (Some (type.Pointer other)) v h f =
    answers (λ w. defined_scalar v) (λ w. refl) (λ w. defined_calm (Some (type.Pointer size)) v (pointer_fits size (Some (type.Pointer other)) v tt f))
handed_safe (Some (type.Pointer size)) (Some (type.Array other)) v h f =
    answers (λ w. defined_scalar v) (λ w. refl) (λ w. defined_calm (Some (type.Pointer size)) v (pointer_fits size (Some (type.Array other)) v tt f))
handed_safe t u v h f = absurd h

-- an expression's value where one of another type, or a null pointer, is wanted
pub wanted_value_safe : (is_null : Bool) (t u : Option ValueType) (m m0 : Sense) → TakesOrNull is_null t u → (IsValue u → Safe (Fits u) m.value m0.value)
    → Safe (Fits t) (wanted_value is_null u t m) (wanted_value is_null u t m0)
wanted_value_safe true t u m m0 h a = gives Null (null_fits t h)
wanted_value_safe false t u m m0 h a = seq (a (taken_value t u h)) (λ v f. wanted_safe t u v h f)

pub handed_value_safe : (is_null : Bool) (t u : Option ValueType) (m m0 : Sense) → TakesOrNull is_null t u → (IsValue u → Safe (Fits u) m.value m0.value)
    → Safe (Given t) (handed_value is_null t m) (handed_value is_null t m0)
handed_value_safe true t u m m0 h a = gives Null (null_fits t h, refl)
handed_value_safe false t u m m0 h a = seq (a (taken_value t u h)) (λ v f. handed_safe t u v h f)

-- an arm of `? :`
arm_as_safe : (b : Bool) (t u : Option ValueType) (v : Scalar) → TakesType t u → Fits u v → Safe (Fits t) (arm_as b u t v) (arm_as b u t v)
arm_as_safe true t u v h f = weaker (λ x g. g.0) (handed_safe t u v h f)
arm_as_safe false t u v h f = wanted_safe t u v h f

pub arm_value_safe : (is_null : Bool) (t u : Option ValueType) (m m0 : Sense) → TakesOrNull is_null t u → (IsValue u → Safe (Fits u) m.value m0.value)
    → Safe (Fits t) (arm_value is_null u t m) (arm_value is_null u t m0)
arm_value_safe true t u m m0 h a = gives Null (null_fits t h)
arm_value_safe false t u m m0 h a = seq (a (taken_value t u h)) (λ v f. arm_as_safe (is_other_pointer (as_used u) t) t u v h f)

-- truths
pub truth_calm : (v : Scalar) → Calm Any (truth_of v)
truth_calm (Number kind n) = tt
truth_calm (Place a i) = tt
truth_calm Null = tt
truth_calm Undefined = tt

pub truth_safe : (v : Scalar) → Safe Any (truth_value v) (truth_value v)
truth_safe v = answers (λ w. truth_of v) (λ w. refl) (λ w. truth_calm v)

-- numbers
fitted_calm : (kind : Kind) (n : ℤ) → Calm Any (fitted_value kind n)
fitted_calm Unsigned n = tt
fitted_calm Char n = calm_if Any (lies_in Char n) (Ok n) (Err trap.Overflow) tt tt
fitted_calm Int n = calm_if Any (lies_in Int n) (Ok n) (Err trap.Overflow) tt tt

left_shift_calm : (kind : Kind) (x y : ℤ) → Calm Any (left_shift kind x y)
left_shift_calm Unsigned x y = calm_if Any (is_count y) (Ok (wrapped_value Unsigned (x *ℤ two_to y))) (Err trap.Shift) tt tt
left_shift_calm Char x y =
    calm_if Any (is_count y && (int_le (pos 0) x && lies_in Char (x *ℤ two_to y))) (Ok (x *ℤ two_to y)) (Err trap.Shift) tt tt
left_shift_calm Int x y =
    calm_if Any (is_count y && (int_le (pos 0) x && lies_in Int (x *ℤ two_to y))) (Ok (x *ℤ two_to y)) (Err trap.Shift) tt tt

binary_calm : (o : Binary) (kind : Kind) (x y : ℤ) → Calm Any (binary_value o kind x y)
binary_calm op.Add kind x y = fitted_calm kind (x +ℤ y)
binary_calm op.Sub kind x y = fitted_calm kind (x -ℤ y)
binary_calm op.Mul kind x y = fitted_calm kind (x *ℤ y)
binary_calm op.Div kind x y = calm_if Any (is_zero y) (Err trap.Divide) (fitted_value kind (int_div x y)) tt (fitted_calm kind (int_div x y))
binary_calm op.Rem kind x y =
    calm_if Any (is_zero y) (Err trap.Divide) (if lies_in kind (int_div x y) then Ok (int_rem x y) else Err trap.Overflow) tt
    (calm_if Any (lies_in kind (int_div x y)) (Ok (int_rem x y)) (Err trap.Overflow) tt tt)
binary_calm op.Shl kind x y = left_shift_calm kind x y
binary_calm op.Shr kind x y = calm_if Any (is_count y) (Ok (int_div_euclid x (two_to y))) (Err trap.Shift) tt tt
binary_calm o kind x y = tt

number_calm : (kind : Kind) (r : Result ℤ Trap) → Calm Any r → Calm (Fits (Some (type.Number kind))) (as_number kind r)
number_calm kind (Ok n) h = refl
number_calm kind (Err t) h = h

pub applied_calm : (o : Binary) (k l : Kind) (x y : Scalar) → has_operand_kinds o k l ≡ true → Fits (Some (type.Number k)) x → Fits (Some (type.Number l)) y
    → Calm (Fits (Some (type.Number (kind_given o k)))) (operator_applied o x y)
unfolding operator_applied
applied_calm o k l (Number i m) (Number j n) t f g =
    subst (λ a. Calm (Fits (Some (type.Number (kind_given o k)))) (operator_applied o (Number a m) (Number j n))) f
    (subst (λ a. Calm (Fits (Some (type.Number (kind_given o k)))) (operator_applied o (Number k m) (Number a n))) g
    (taken (has_operand_kinds o k l) t))
  where
    taken : (b : Bool) → b ≡ true → Calm (Fits (Some (type.Number (kind_given o k)))) (if b then as_number (kind_given o k)
        (binary_value o k m n) else Err trap.Internal)
    taken true t = number_calm (kind_given o k) (binary_value o k m n) (binary_calm o k m n)
    taken false t = absurd (false≢true t)
applied_calm o k l Undefined y t f g = tt
applied_calm o k l Null y t f g = absurd f
applied_calm o k l (Place a i) y t f g = absurd f
applied_calm o k l (Number i m) Undefined t f g = tt
applied_calm o k l (Number i m) Null t f g = absurd g
applied_calm o k l (Number i m) (Place a j) t f g = absurd g

-- the kinds that operands are converted to
of_common : (P : Kind → Type 0) → P Int → P Unsigned → (left right : Kind) → P (common_kind left right)
of_common P i u Char Char = i
of_common P i u Char Int = i
of_common P i u Int Char = i
of_common P i u Int Int = i
of_common P i u Char Unsigned = u
of_common P i u Int Unsigned = u
of_common P i u Unsigned Char = u
of_common P i u Unsigned Int = u
of_common P i u Unsigned Unsigned = u

of_promoted : (P : Kind → Type 0) → P Int → P Unsigned → (kind : Kind) → P (promoted_kind kind)
of_promoted P i u Char = i
of_promoted P i u Int = i
of_promoted P i u Unsigned = u

-- an operation takes what its operands were converted to
pub takes_converted : (o : Binary) (left right : Kind) → has_operand_kinds o (left_kind o left right) (right_kind o left right) ≡ true
takes_converted op.Shl l r = of_promoted (λ k. has_operand_kinds op.Shl k (promoted_kind r) ≡ true)
    (of_promoted (λ k. has_operand_kinds op.Shl Int k ≡ true) refl refl r) (of_promoted (λ k. has_operand_kinds op.Shl Unsigned k ≡ true) refl refl r) l
takes_converted op.Shr l r = of_promoted (λ k. has_operand_kinds op.Shr k (promoted_kind r) ≡ true)
    (of_promoted (λ k. has_operand_kinds op.Shr Int k ≡ true) refl refl r) (of_promoted (λ k. has_operand_kinds op.Shr Unsigned k ≡ true) refl refl r) l
takes_converted o l r = of_common (λ k. has_operand_kinds o k k ≡ true) refl refl l r

-- unary operators
pub not_calm : (v : Scalar) → Calm (Fits (Some (type.Number Int))) (applied_to_one unary.Not v)
unfolding applied_to_one
not_calm Undefined = tt
not_calm v = refl

neg_of : (k : Kind) (n : ℤ) → IsPromoted (Some (type.Number k)) → Calm (Fits (Some (type.Number k))) (applied_to_one unary.Neg (Number k n))
unfolding applied_to_one
neg_of Char n h = absurd h
neg_of Int n h = number_calm Int (fitted_value Int (neg_ℤ n)) (fitted_calm Int (neg_ℤ n))
neg_of Unsigned n h = number_calm Unsigned (fitted_value Unsigned (neg_ℤ n)) (fitted_calm Unsigned (neg_ℤ n))

pub neg_calm : (t : Option ValueType) (v : Scalar) → IsPromoted t → Fits t v → Calm (Fits t) (applied_to_one unary.Neg v)
unfolding applied_to_one
neg_calm t Undefined h f = tt
neg_calm (Some (type.Number k)) (Number j n) h f = subst (λ a. Calm (Fits (Some (type.Number k))) (applied_to_one unary.Neg (Number a n))) f (neg_of k n h)
neg_calm (Some (type.Number k)) Null h f = absurd f
neg_calm (Some (type.Number k)) (Place a i) h f = absurd f
neg_calm t v h f = absurd h

com_of : (k : Kind) (n : ℤ) → IsPromoted (Some (type.Number k)) → Calm (Fits (Some (type.Number k))) (applied_to_one unary.Com (Number k n))
unfolding applied_to_one
com_of Char n h = absurd h
com_of Int n h = refl
com_of Unsigned n h = refl

pub com_calm : (t : Option ValueType) (v : Scalar) → IsPromoted t → Fits t v → Calm (Fits t) (applied_to_one unary.Com v)
unfolding applied_to_one
com_calm t Undefined h f = tt
com_calm (Some (type.Number k)) (Number j n) h f = subst (λ a. Calm (Fits (Some (type.Number k))) (applied_to_one unary.Com (Number a n))) f (com_of k n h)
com_calm (Some (type.Number k)) Null h f = absurd f
com_calm (Some (type.Number k)) (Place a i) h f = absurd f
com_calm t v h f = absurd h
