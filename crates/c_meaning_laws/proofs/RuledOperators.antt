-- What the rules on operators, assignments and casts accept, the rules on values take.
use Rattle.std.proofs.Common.{◌≡◌, ℕ, refl, ap, subst, sym, ◌∙◌, List, Some, None, Ok, Err, Bool, true, false}
use Rattle.std.proofs.lemmas.Bool.{false≢true, true≢false, and_parts, not-true}
use Rattle.std.specs.Prelude.{Option, ◌&&◌, ◌||◌, not, if◌then◌else◌}
use Rattle.std.specs.Cmp.Derive.{both_true}
use Rattle.cbi_base.specs.declared.operators.Binary.{Binary}
use Rattle.cbi_base.specs.declared.operators.Binary.TheVariants as op
use Rattle.cbi_base.specs.declared.operators.Order.{Order}
use Rattle.cbi_base.specs.declared.operators.Order.TheVariants as order
use Rattle.cbi_base.specs.declared.scalar.Kind.{Kind}
use Rattle.cbi_base.specs.declared.scalar.Kind.TheVariants as kind
use Rattle.cbi_base.specs.Arithmetic.{kind_given}
use Rattle.c_types_rules.specs.declared.fault.FaultKind.TheVariants as fault
use Rattle.c_types_rules.specs.declared.layout.StructType.{StructType}
use Rattle.c_types_rules.specs.declared.operand.Operand.{Operand}
use Rattle.c_types_rules.specs.TypeTree as t
use Rattle.c_types_rules.specs.Words.{TypeTree, is_assignable, typed_simple_assignment, is_left_side, pointers_join, pointers_meet, is_arithmetic, is_array, is_pointer}
use Rattle.c_types_rules.specs.Words.{value_of, OperandOrFault, ◌>>=◌, both_arithmetic, typed_binary_operation, typed_equality, value_if_operands_fit, is_movable, common_kind, promoted_kind}
use Rattle.c_types_rules.specs.Conversions as rule
use Rattle.c_meaning.specs.declared.operation.Operation.{Operation}
use Rattle.c_meaning.specs.declared.operation.Operation.TheVariants.{Numbers, MoveLeft, MoveRight, Span, Ordered, Wrong}
use Rattle.c_meaning.specs.declared.value_type.ValueType.{ValueType}
use Rattle.c_meaning.specs.declared.value_type.ValueType.TheVariants as type
use Rattle.c_meaning.specs.Conversions as mean
use Rattle.c_meaning.specs.Words.{left_kind, on_pointers, operation, operand_type}
use Rattle.c_meaning_laws.specs.Rules.{Changes, IsNumberType, IsPointing, Operates, TakesOrNull, TakesType}
use Rattle.c_meaning_laws.proofs.Ruled.{Computed, HasStep, Is, added_fits, arithmetic_number, assignable_taken, common_known, given, gives_by}
use Rattle.c_meaning_laws.proofs.Ruled.{kind_plain, known, numbers_compared, numbers_operate, ordered_fits, pointer_pointing, pointers_compared, promoted_known, subtracted_fits}

-- operators on numbers alone
calculated_fits : (structs : List StructType) (o : Binary) → ((k l : Kind) → kind_given o (left_kind o k l) ≡ common_kind k l) → (x y : TypeTree) (z : Operand)
    → Is (value_if_operands_fit (both_arithmetic (rule.decayed_type x) (rule.decayed_type y)) (rule.common_type (rule.decayed_type x) (rule.decayed_type y))) z → Computed structs o x y z
calculated_fits structs o e x y z h =
    gives_by (Computed structs o x y) (both_arithmetic (rule.decayed_type x) (rule.decayed_type y)) (rule.common_type (rule.decayed_type x) (rule.decayed_type y)) z
    (λ m. numbers_operate structs o x y (rule.common_type (rule.decayed_type x) (rule.decayed_type y)) (and_parts (is_arithmetic (rule.decayed_type x))
    (is_arithmetic (rule.decayed_type y)) m).0
    (and_parts (is_arithmetic (rule.decayed_type x)) (is_arithmetic (rule.decayed_type y)) m).1
    (λ k l i j. rw i (rw j (rw (kind_plain k) (rw (kind_plain l) (common_known structs k l ∙ ap (λ a. type.Number a) (sym (e k l)))))))) h

shifted_fits : (structs : List StructType) (o : Binary) → ((k l : Kind) → kind_given o (left_kind o k l) ≡ promoted_kind k) → (x y : TypeTree) (z : Operand)
    → Is (value_if_operands_fit (both_arithmetic (rule.decayed_type x) (rule.decayed_type y)) (rule.promoted_type (rule.decayed_type x))) z → Computed structs o x y z
shifted_fits structs o e x y z h =
    gives_by (Computed structs o x y) (both_arithmetic (rule.decayed_type x) (rule.decayed_type y)) (rule.promoted_type (rule.decayed_type x)) z
    (λ m. numbers_operate structs o x y (rule.promoted_type (rule.decayed_type x)) (and_parts (is_arithmetic (rule.decayed_type x)) (is_arithmetic (rule.decayed_type y)) m).0
    (and_parts (is_arithmetic (rule.decayed_type x)) (is_arithmetic (rule.decayed_type y)) m).1
    (λ k l i j. rw i (rw (kind_plain k) (promoted_known structs k ∙ ap (λ a. type.Number a) (sym (e k l)))))) h

-- no equality
abbrev pub IsNoEquality : Binary → Type 0
IsNoEquality op.Eq = ⊥
IsNoEquality op.Ne = ⊥
IsNoEquality o = Unit {0}

-- the pointers among the operands can be moved where their types are complete
abbrev pub StepsKnown : List StructType → TypeTree → Type 0
StepsKnown structs x = is_movable structs (rule.decayed_type x) ≡ true → HasStep (known structs x)

-- an operator that is no equality, of a chain or of a compound assignment
pub combined_fits : (structs : List StructType) (o : Binary) → IsNoEquality o → (x y z : Operand) → StepsKnown structs x.ctype → StepsKnown structs y.ctype
    → Is (typed_binary_operation structs o x y) z → Computed structs o x.ctype y.ctype z
combined_fits structs op.Add n x y z s r h = added_fits structs x.ctype y.ctype z s r h
combined_fits structs op.Sub n x y z s r h = subtracted_fits structs x.ctype y.ctype z s h
combined_fits structs op.Shl n x y z s r h = shifted_fits structs op.Shl (λ k l. refl) x.ctype y.ctype z h
combined_fits structs op.Shr n x y z s r h = shifted_fits structs op.Shr (λ k l. refl) x.ctype y.ctype z h
combined_fits structs op.Lt n x y z s r h = ordered_fits structs op.Lt order.Lt (λ size. refl) (λ k. refl) x.ctype y.ctype z h
combined_fits structs op.Le n x y z s r h = ordered_fits structs op.Le order.Le (λ size. refl) (λ k. refl) x.ctype y.ctype z h
combined_fits structs op.Gt n x y z s r h = ordered_fits structs op.Gt order.Gt (λ size. refl) (λ k. refl) x.ctype y.ctype z h
combined_fits structs op.Ge n x y z s r h = ordered_fits structs op.Ge order.Ge (λ size. refl) (λ k. refl) x.ctype y.ctype z h
combined_fits structs op.Eq n x y z s r h = absurd n
combined_fits structs op.Ne n x y z s r h = absurd n
combined_fits structs o n x y z s r h = calculated_fits structs o (λ k l. refl) x.ctype y.ctype z h

-- equalities, with null constants
number_no_pointer : (u : Option ValueType) → IsNumberType u → mean.is_pointer_value u ≡ false
number_no_pointer (Some (type.Number k)) h = refl
number_no_pointer u h = absurd h

pointing_is : (u : Option ValueType) → IsPointing u → mean.is_pointer_value u ≡ true
pointing_is (Some (type.Pointer size)) h = refl
pointing_is (Some (type.Array size)) h = refl
pointing_is u h = absurd h

pointing_anyway : (b : Bool) (u : Option ValueType) → IsPointing u → IsPointing (operand_type b u)
pointing_anyway true u h = tt
pointing_anyway false u h = h

pointing_null : (b : Bool) (u : Option ValueType) → b ≡ true → IsPointing (operand_type b u)
pointing_null true u e = tt
pointing_null false u e = absurd (false≢true e)

-- no pointer takes a number
number_pointing : (u : Option ValueType) → IsPointing u → TakesType u (Some (type.Number kind.Int)) → ⊥
number_pointing (Some (type.Pointer size)) h k = k
number_pointing (Some (type.Array size)) h k = k
number_pointing u h k = absurd h

-- the types of the two operands of an equality
abbrev pub left_beside : Option ValueType → Option ValueType → Bool → Option ValueType
left_beside u v null = operand_type (mean.is_pointer_value v && null) u

abbrev pub right_beside : Option ValueType → Option ValueType → Bool → Option ValueType
right_beside left v null = operand_type (mean.is_pointer_value left && null) v

abbrev BothPointing : Option ValueType → Option ValueType → Bool → Bool → Type 0
BothPointing u v m n = IsPointing (left_beside u v m) × IsPointing (right_beside (left_beside u v m) v n)

join_pointing : (structs : List StructType) (x y : Operand) → pointers_join x y ≡ true → BothPointing (known structs x.ctype)
    (known structs y.ctype) x.null y.null
join_pointing structs x y h =
    first (pointers_meet (rule.value_type x) (rule.value_type y)) (is_pointer (rule.value_type x) && y.null)
    (is_pointer (rule.value_type y) && x.null) refl refl refl h
  where
    first : (a b c : Bool) → pointers_meet (rule.value_type x) (rule.value_type y) ≡ a → (is_pointer (rule.value_type x) && y.null) ≡ b
        → (is_pointer (rule.value_type y) && x.null) ≡ c
        → (a || b || c) ≡ true → BothPointing (known structs x.ctype) (known structs y.ctype) x.null y.null
    first true b c e f g h =
        let pointers : ((is_pointer (rule.value_type x) && is_pointer (rule.value_type y)) ≡ true) =
        (and_parts (is_pointer (rule.value_type x) && is_pointer (rule.value_type y)) _ e).0 in (
          pointing_anyway _ (known structs x.ctype) (pointer_pointing structs x.ctype (and_parts (is_pointer (rule.value_type x))
              (is_pointer (rule.value_type y)) pointers).0),
          pointing_anyway _ (known structs y.ctype) (pointer_pointing structs y.ctype (and_parts (is_pointer (rule.value_type x))
              (is_pointer (rule.value_type y)) pointers).1),
        )
    first false true c e f g h =
        let l : IsPointing (left_beside (known structs x.ctype) (known structs y.ctype) x.null) =
        pointing_anyway _ (known structs x.ctype) (pointer_pointing structs x.ctype (and_parts (is_pointer (rule.value_type x)) y.null f).0) in (
          l,
          pointing_null _ (known structs y.ctype) (both_true (pointing_is (left_beside (known structs x.ctype) (known structs y.ctype) x.null) l)
              (and_parts (is_pointer (rule.value_type x)) y.null f).1),
        )
    first false false true e f g h =
        let r : IsPointing (known structs y.ctype) = pointer_pointing structs y.ctype (and_parts (is_pointer (rule.value_type y)) x.null g).0 in (
          pointing_null _ (known structs x.ctype) (both_true (pointing_is (known structs y.ctype) r) (and_parts (is_pointer (rule.value_type y)) x.null g).1),
          pointing_anyway _ (known structs y.ctype) r,
        )
    first false false false e f g h = absurd (false≢true h)

-- an equality of two operands gives one of the type of the third
abbrev pub Equated : List StructType → Binary → Operand → Operand → Operand → Type 0
Equated structs o x y z =
    let left : Option ValueType = left_beside (known structs x.ctype) (known structs y.ctype) x.null in
    let right : Option ValueType = right_beside left (known structs y.ctype) y.null in
    Operates (operation o left right) left right (known structs z.ctype)

pub equated_fits : (structs : List StructType) (o : Binary) (r : Order) → ((size : ℕ) → on_pointers o size ≡ Ordered r)
    → ((k : Kind) → kind_given o k ≡ kind.Int) → (x y z : Operand)
    → Is (typed_equality x y) z → Equated structs o x y z
equated_fits structs o r e f x y z h =
    gives_by (Equated structs o x y) (both_arithmetic (rule.value_type x) (rule.value_type y) || pointers_join x y) t.Int z
    (λ m. either (both_arithmetic (rule.value_type x) (rule.value_type y)) refl m) h
  where
    either : (b : Bool) → both_arithmetic (rule.value_type x) (rule.value_type y) ≡ b → (b || pointers_join x y) ≡ true →
        Equated structs o x y (value_of t.Int)
    either true b m =
        let i : IsNumberType (known structs x.ctype) = arithmetic_number structs x.ctype (and_parts (is_arithmetic (rule.value_type x))
        (is_arithmetic (rule.value_type y)) b).0 in
        let j : IsNumberType (known structs y.ctype) = arithmetic_number structs y.ctype (and_parts (is_arithmetic (rule.value_type x))
        (is_arithmetic (rule.value_type y)) b).1 in
        rw (number_no_pointer (known structs y.ctype) j) (rw (number_no_pointer (known structs x.ctype) i)
        (numbers_compared o f (known structs x.ctype) (known structs y.ctype) i j))
    either false b m =
        let p : BothPointing (known structs x.ctype) (known structs y.ctype) x.null y.null = join_pointing structs x y m in
        pointers_compared o r e _ _ p.0 p.1

-- assignments
pub bind_by : (P : Operand → Type 0) (r : OperandOrFault) (next : Operand → OperandOrFault) (z : Operand) → ((a : Operand) → Is r a → Is (next a) z → P z) → Is (r >>= next) z
    → P z
bind_by P (Ok a) next z k h = k a refl h
bind_by P (Err f) next z k h = cc

-- what an assignment asks of its left side, and gives
pub record Assigned (target x z : Operand) : Type 0 where
  pub fits : is_assignable (rule.value_type target) x ≡ true
  pub side : is_left_side target ≡ true
  pub gives : z ≡ value_of (rule.value_type target)

assigned_by : (target x z : Operand) (a b : Bool) → is_assignable (rule.value_type target) x ≡ a → is_left_side target ≡ b
    → Is (if a then if b then Ok (value_of (rule.value_type target)) else Err fault.NoPlace else Err fault.Operands) z → Assigned target x z
assigned_by target x z true true e f h = given (λ y. Assigned target x y) (value_of (rule.value_type target)) z (record {
  fits = e;
  side = f;
  gives =
      refl;
}) h
assigned_by target x z true false e f h = cc
assigned_by target x z false b e f h = cc

pub assigned_is : (target x z : Operand) → Is (typed_simple_assignment target x) z → Assigned target x z
assigned_is target x z h = assigned_by target x z (is_assignable (rule.value_type target) x) (is_left_side target) refl refl h

-- a left side is no array, so its value has its own type
left_type : (of : TypeTree) → is_array of ≡ false → rule.decayed_type of ≡ of
left_type (t.Array element size) h = absurd (true≢false h)
left_type of h = refl

pub side_type : (target : Operand) → is_left_side target ≡ true → rule.value_type target ≡ target.ctype
side_type target h = left_type target.ctype (not-true (is_array target.ctype) (and_parts target.place (not (is_array target.ctype)) h).1)

-- `=`
pub assignment_fits : (structs : List StructType) (target x z : Operand) → Is (typed_simple_assignment target x) z
    → (target.place ≡ true) × (z.ctype ≡ target.ctype) × TakesOrNull (mean.is_pointer_value (known structs target.ctype) && x.null) (known structs target.ctype)
    (known structs x.ctype)
assignment_fits structs target x z h =
    let a : Assigned target x z = assigned_is target x z h in
    let own : rule.value_type target ≡ target.ctype = side_type target a.side in (
      (and_parts target.place (not (is_array target.ctype)) a.side).0,
      ap (λ y. y.ctype) a.gives ∙ own,
      subst (λ of. TakesOrNull (mean.is_pointer_value (known structs of) && x.null) (known structs of) (known structs x.ctype)) own
          (assignable_taken structs (rule.value_type target) x a.fits),
    )

-- an operation whose result is taken back changes the place
pub changes : (o : Operation) (u v w : Option ValueType) → Operates o u v w → TakesType u w → Changes o u v
changes (Numbers o l r) u v w h k = rw h.0 (tt, (refl, h.1, refl), tt)
changes (MoveLeft size) (Some (type.Pointer n)) v w h k = (tt, (tt, h.1, tt), tt)
changes (MoveLeft size) (Some (type.Array n)) v w h k = absurd k
changes (MoveRight size) (Some (type.Number n)) v (Some (type.Pointer m)) h k = absurd k
changes (MoveRight size) (Some (type.Number n)) v (Some (type.Array m)) h k = absurd k
changes (MoveRight size) (Some (type.Number n)) v w h k = absurd h.2
changes (Span size) u v w h k = absurd (number_pointing u h.0 (subst (TakesType u) h.2 k))
changes (Ordered o) u v w h k = absurd (number_pointing u h.0 (subst (TakesType u) h.2 k))
changes Wrong u v w h k = absurd h
changes (MoveLeft size) (Some (type.Number n)) v w h k = absurd h.0
changes (MoveLeft size) (Some type.Void) v w h k = absurd h.0
changes (MoveLeft size) (Some type.Struct) v w h k = absurd h.0
changes (MoveLeft size) None v w h k = absurd h.0
changes (MoveRight size) u v w h k = absurd h.0
