-- What fits is what the rules accept.
use Rattle.std.proofs.Common.{◌⊎◌, inl, inr, ◌≡◌, refl, ap, subst, sym, ◌∙◌, List, Some, None, Ok, Err, Bool, true, false, ◌≤◌, ℕ}
use Rattle.std.specs.Prelude.{Option, ◌&&◌, ◌||◌, if◌then◌else◌, not}
use Rattle.std.proofs.lemmas.Bool.{and_from, false≢true, and_left, and_right, or_left, or_right}
use Rattle.cbi_base.specs.declared.operators.Binary.{Binary}
use Rattle.cbi_base.specs.declared.operators.Binary.TheVariants as op
use Rattle.c_types_rules.specs.declared.fault.FaultKind.TheVariants as fault
use Rattle.c_types_rules.specs.declared.layout.StructType.{StructType}
use Rattle.c_types_rules.specs.declared.operand.Operand.{Operand}
use Rattle.c_types_rules.specs.Words.{TypeTree, Void, Char, Int, Unsigned, Pointer, same_type, is_assignable, is_left_side, pointers_join}
use Rattle.c_types_rules.specs.Words.{pointers_meet, common_type, decayed_type, is_arithmetic, is_array, is_pointer, is_void, is_void_pointer, place_of, promoted_type}
use Rattle.c_types_rules.specs.Words.{value_of, value_type, OperandOrFault, ◌>>=◌, typed_sum, both_arithmetic, cast_to, typed_binary_operation, typed_equality, value_if_operands_fit, is_movable}
use Rattle.c_types_rules.specs.Words.{is_scalar_value, typed_relation, typed_difference, typed_conditional, typed_alternatives, typed_subscript, joined_pointer, typed_indirection, pointed_type}
use Rattle.c_types_rules.proofs.Same.{same_self}
use Rattle.c_types_expressions.specs.ExprWalk.{typed_chain_operation}
use Rattle.c_types_laws.specs.Operands.{Accepts, Adds, AreArithmetic, Calculates, Casts, Chooses, Equates, Indexes, IsModifiable, Joins, LeadsToObject}
use Rattle.c_types_laws.specs.Operands.{IsPointer, Operates, Orders, PointersJoin, PointersMeet, PointsToObject, Shifts, Subtracts}

-- tests

pub if_true : {A : Type 0} (b : Bool) (m n : A) → b ≡ true → (if b then m else n) ≡ m
if_true true m n h = refl
if_true false m n h = absurd (false≢true h)

pub if_false : {A : Type 0} (b : Bool) (m n : A) → b ≡ false → (if b then m else n) ≡ n
if_false false m n h = refl
if_false true m n h = absurd (false≢true (sym h))

pub three_true : (a b c : Bool) → a ≡ true → b ≡ true → c ≡ true → (a && b && c) ≡ true
three_true true true true p q r = refl
three_true false b c p q r = absurd (false≢true p)
three_true true false c p q r = absurd (false≢true q)
three_true true true false p q r = absurd (false≢true r)

first_of : (a b c : Bool) → a ≡ true → (a || b || c) ≡ true
first_of true b c h = refl
first_of false b c h = absurd (false≢true h)

second_of : (a b c : Bool) → b ≡ true → (a || b || c) ≡ true
second_of true b c h = refl
second_of false true c h = refl
second_of false false c h = absurd (false≢true h)

third_of : (a b c : Bool) → c ≡ true → (a || b || c) ≡ true
third_of true b c h = refl
third_of false true c h = refl
third_of false false c h = h

pub gives_true : (b : Bool) (t : TypeTree) → b ≡ true → value_if_operands_fit b t ≡ Ok (value_of t)
gives_true true t h = refl
gives_true false t h = absurd (false≢true h)

-- a value of the type that it has
pub of_type : {r : OperandOrFault} {s t : TypeTree} → r ≡ Ok (value_of s) → t ≡ s → r ≡ Ok (value_of t)
of_type h e = h ∙ ap (λ u. Ok (value_of u)) (sym e)

-- pointers

alike : (a b : TypeTree) → ((a ≡ b) ⊎ ((is_void_pointer a ≡ true) ⊎ (is_void_pointer b ≡ true)))
    → (same_type a b || is_void_pointer a || is_void_pointer b) ≡ true
alike a b (inl h) = first_of (same_type a b) (is_void_pointer a) (is_void_pointer b) (subst (λ c. same_type a c ≡ true) h (same_self a))
alike a b (inr (inl h)) = second_of (same_type a b) (is_void_pointer a) (is_void_pointer b) h
alike a b (inr (inr h)) = third_of (same_type a b) (is_void_pointer a) (is_void_pointer b) h

pub meets_back : (a b : TypeTree) → PointersMeet a b → pointers_meet a b ≡ true
meets_back a b h = three_true (is_pointer a) (is_pointer b) (same_type a b || is_void_pointer a || is_void_pointer b) h.0 h.1 (alike a b h.2)

pub joins_back : (x y : Operand) → PointersJoin x y → pointers_join x y ≡ true
joins_back x y (inl h) = first_of (pointers_meet (value_type x) (value_type y)) (is_pointer (value_type x) && y.null) (is_pointer (value_type y) && x.null)
    (meets_back (value_type x) (value_type y) h)
joins_back x y (inr (inl h)) = second_of (pointers_meet (value_type x) (value_type y)) (is_pointer (value_type x) && y.null)
    (is_pointer (value_type y) && x.null) (and_from (is_pointer (value_type x)) y.null h.0 h.1)
joins_back x y (inr (inr h)) = third_of (pointers_meet (value_type x) (value_type y)) (is_pointer (value_type x) && y.null)
    (is_pointer (value_type y) && x.null) (and_from (is_pointer (value_type y)) x.null h.0 h.1)

pub accepts_back : (t : TypeTree) (x : Operand) → Accepts t x → is_assignable t x ≡ true
accepts_back t x (inl h) = first_of (is_arithmetic t && is_arithmetic (value_type x)) (is_pointer t && x.null) (pointers_meet t (value_type x))
    (and_from (is_arithmetic t) (is_arithmetic (value_type x)) h.0 h.1)
accepts_back t x (inr (inl h)) = second_of (is_arithmetic t && is_arithmetic (value_type x)) (is_pointer t && x.null) (pointers_meet t (value_type x))
    (and_from (is_pointer t) x.null h.0 h.1)
accepts_back t x (inr (inr h)) = third_of (is_arithmetic t && is_arithmetic (value_type x)) (is_pointer t && x.null) (pointers_meet t (value_type x))
    (meets_back t (value_type x) h)

pub modifiable_back : (x : Operand) → IsModifiable x → is_left_side x ≡ true
modifiable_back x h = and_from x.place (not (is_array x.ctype)) h.0 (ap not h.1)

both_back : (a b : TypeTree) → AreArithmetic a b → both_arithmetic a b ≡ true
both_back a b h = and_from (is_arithmetic a) (is_arithmetic b) h.0 h.1

pub calculated_back : (a b t : TypeTree) → Calculates a b t → value_if_operands_fit (both_arithmetic a b) (common_type a b) ≡ Ok (value_of t)
calculated_back a b t h = of_type (gives_true (both_arithmetic a b) (common_type a b) (both_back a b h.0)) h.1

shifted_back : (a b t : TypeTree) → Shifts a b t → value_if_operands_fit (both_arithmetic a b) (promoted_type a) ≡ Ok (value_of t)
shifted_back a b t h = of_type (gives_true (both_arithmetic a b) (promoted_type a) (both_back a b h.0)) h.1

in_order : (a b : TypeTree) → (AreArithmetic a b ⊎ (IsPointer a × (b ≡ a))) → (both_arithmetic a b || (is_pointer a && same_type a b)) ≡ true
in_order a b (inl h) = or_left (both_arithmetic a b) (is_pointer a && same_type a b) (both_back a b h)
in_order a b (inr h) = or_right (both_arithmetic a b) (is_pointer a && same_type a b)
    (and_from (is_pointer a) (same_type a b) h.0 (subst (λ c. same_type a c ≡ true) (sym h.1) (same_self a)))

ordered_back : (a b t : TypeTree) → Orders a b t → typed_relation a b ≡ Ok (value_of t)
ordered_back a b t h = of_type (gives_true (both_arithmetic a b || (is_pointer a && same_type a b)) Int (in_order a b h.0)) h.1

compared : (x y : Operand) → (AreArithmetic (value_type x) (value_type y) ⊎ PointersJoin x y)
    → (both_arithmetic (value_type x) (value_type y) || pointers_join x y) ≡ true
compared x y (inl h) = or_left (both_arithmetic (value_type x) (value_type y)) (pointers_join x y) (both_back (value_type x) (value_type y) h)
compared x y (inr h) = or_right (both_arithmetic (value_type x) (value_type y)) (pointers_join x y) (joins_back x y h)

equated_back : (x y : Operand) (t : TypeTree) → Equates x y t → typed_equality x y ≡ Ok (value_of t)
equated_back x y t h = of_type (gives_true (both_arithmetic (value_type x) (value_type y) || pointers_join x y) Int (compared x y h.0)) h.1

module _ (ss : List StructType) where
  pub points_back : (t : TypeTree) → PointsToObject ss t → is_movable ss t ≡ true
  points_back (Pointer to) h = h
  points_back t h = absurd h

  no_number : (t : TypeTree) → PointsToObject ss t → is_arithmetic t ≡ false
  no_number (Pointer to) h = refl
  no_number t h = absurd h

  pub added_back : (a b t : TypeTree) → Adds ss a b t → typed_sum ss a b ≡ Ok (value_of t)
  added_back a b t (inl h) = of_type (if_true (both_arithmetic a b) (Ok (value_of (common_type a b)))
      (if is_arithmetic b then value_if_operands_fit (is_movable ss a) a else value_if_operands_fit (is_arithmetic a && is_movable ss b) b) (both_back a b h.0)) h.1
  added_back a b t (inr (inl h)) = of_type (
      if_false (both_arithmetic a b) (Ok (value_of (common_type a b)))
      (if is_arithmetic b then value_if_operands_fit (is_movable ss a) a else value_if_operands_fit (is_arithmetic a && is_movable ss b) b)
      (and_left (is_arithmetic a) (is_arithmetic b) (no_number a h.0))
      ∙ if_true (is_arithmetic b) (value_if_operands_fit (is_movable ss a) a) (value_if_operands_fit (is_arithmetic a && is_movable ss b) b) h.1
      ∙ gives_true (is_movable ss a) a (points_back a h.0)) h.2
  added_back a b t (inr (inr h)) = of_type (
      if_false (both_arithmetic a b) (Ok (value_of (common_type a b)))
      (if is_arithmetic b then value_if_operands_fit (is_movable ss a) a else value_if_operands_fit (is_arithmetic a && is_movable ss b) b)
      (and_right (is_arithmetic a) (is_arithmetic b) (no_number b h.1))
      ∙ if_false (is_arithmetic b) (value_if_operands_fit (is_movable ss a) a) (value_if_operands_fit (is_arithmetic a && is_movable ss b) b) (no_number b h.1)
      ∙ gives_true (is_arithmetic a && is_movable ss b) b (and_from (is_arithmetic a) (is_movable ss b) h.0 (points_back b h.1))) h.2

  subtracted_back : (a b t : TypeTree) → Subtracts ss a b t → typed_difference ss a b ≡ Ok (value_of t)
  subtracted_back a b t (inl h) = of_type (if_true (both_arithmetic a b) (Ok (value_of (common_type a b)))
      (if is_arithmetic b then value_if_operands_fit (is_movable ss a) a else value_if_operands_fit (is_movable ss a && same_type a b) Int) (both_back a b h.0)) h.1
  subtracted_back a b t (inr (inl h)) = of_type (
      if_false (both_arithmetic a b) (Ok (value_of (common_type a b)))
      (if is_arithmetic b then value_if_operands_fit (is_movable ss a) a else value_if_operands_fit (is_movable ss a && same_type a b) Int)
      (and_left (is_arithmetic a) (is_arithmetic b) (no_number a h.0))
      ∙ if_true (is_arithmetic b) (value_if_operands_fit (is_movable ss a) a) (value_if_operands_fit (is_movable ss a && same_type a b) Int) h.1
      ∙ gives_true (is_movable ss a) a (points_back a h.0)) h.2
  subtracted_back a b t (inr (inr h)) = of_type (
      if_false (both_arithmetic a b) (Ok (value_of (common_type a b)))
      (if is_arithmetic b then value_if_operands_fit (is_movable ss a) a else value_if_operands_fit (is_movable ss a && same_type a b) Int)
      (and_left (is_arithmetic a) (is_arithmetic b) (no_number a h.0))
      ∙ if_false (is_arithmetic b) (value_if_operands_fit (is_movable ss a) a) (value_if_operands_fit (is_movable ss a && same_type a b) Int)
      (subst (λ c. is_arithmetic c ≡ false) (sym h.1) (no_number a h.0))
      ∙ gives_true (is_movable ss a && same_type a b) Int
      (and_from (is_movable ss a) (same_type a b) (points_back a h.0) (subst (λ c. same_type a c ≡ true) (sym h.1) (same_self a)))) h.2

  pub combined_back : (o : Binary) (x y : Operand) (t : TypeTree) → Operates ss o x y t → typed_binary_operation ss o x y ≡ Ok (value_of t)
  combined_back op.Add x y t h = added_back (value_type x) (value_type y) t h
  combined_back op.Sub x y t h = subtracted_back (value_type x) (value_type y) t h
  combined_back op.Shl x y t h = shifted_back (value_type x) (value_type y) t h
  combined_back op.Shr x y t h = shifted_back (value_type x) (value_type y) t h
  combined_back op.Lt x y t h = ordered_back (value_type x) (value_type y) t h
  combined_back op.Le x y t h = ordered_back (value_type x) (value_type y) t h
  combined_back op.Gt x y t h = ordered_back (value_type x) (value_type y) t h
  combined_back op.Ge x y t h = ordered_back (value_type x) (value_type y) t h
  combined_back op.Eq x y t h = equated_back x y t h
  combined_back op.Ne x y t h = equated_back x y t h
  combined_back o x y t h = calculated_back (value_type x) (value_type y) t h

  pub chained_back : (o : Option Binary) (x y : Operand) (t : TypeTree) → Joins ss o x y t → typed_chain_operation ss o x y ≡ Ok (value_of t)
  chained_back None x y t h = of_type (gives_true (is_scalar_value x && is_scalar_value y) Int (and_from (is_scalar_value x) (is_scalar_value y) h.0 h.1)) h.2
  chained_back (Some o) x y t h = combined_back o x y t h

  -- places
  leads_back : (a t : TypeTree) → LeadsToObject a t → pointed_type a ≡ Ok (place_of t)
  leads_back a t h = ap pointed_type h.0 ∙ if_false (is_void t) (Err fault.Operands) (Ok (place_of t)) h.1

  pub pointed_back : (x : Operand) (t : TypeTree) → LeadsToObject (value_type x) t → typed_indirection x ≡ Ok (place_of t)
  pointed_back x t h = leads_back (value_type x) t h

  pub indexed_back : (x y : Operand) (t : TypeTree) → Indexes ss x y t → typed_subscript ss x y ≡ Ok (place_of t)
  indexed_back x y t (p, h) = ap (λ r. r >>= typed_indirection) (added_back (value_type x) (value_type y) p h.0) ∙ ap (λ u. pointed_type (decayed_type u)) h.1.0
      ∙ if_false (is_void t) (Err fault.Operands) (Ok (place_of t)) h.1.1

pub cast_back : (to : TypeTree) (x : Operand) (t : TypeTree) → Casts to x t → cast_to to x ≡ Ok (value_of t)
cast_back to x t h = of_type (gives_true (is_void to || is_assignable to x) to (taken h.0)) h.1
  where
    taken : ((is_void to ≡ true) ⊎ Accepts to x) → (is_void to || is_assignable to x) ≡ true
    taken (inl h) = or_left (is_void to) (is_assignable to x) h
    taken (inr h) = or_right (is_void to) (is_assignable to x) (accepts_back to x h)

-- the arms of `? :`

void_no_number : (t : TypeTree) → is_void t ≡ true → is_arithmetic t ≡ false
void_no_number Char h = absurd (false≢true h)
void_no_number Int h = absurd (false≢true h)
void_no_number Unsigned h = absurd (false≢true h)
void_no_number t h = refl

pointer_no_number : (t : TypeTree) → is_pointer t ≡ true → is_arithmetic t ≡ false
pointer_no_number Char h = absurd (false≢true h)
pointer_no_number Int h = absurd (false≢true h)
pointer_no_number Unsigned h = absurd (false≢true h)
pointer_no_number t h = refl

pointer_no_void : (t : TypeTree) → is_pointer t ≡ true → is_void t ≡ false
pointer_no_void Void h = absurd (false≢true h)
pointer_no_void t h = refl

has_pointer : (x y : Operand) → PointersJoin x y → (IsPointer (value_type x)) ⊎ (IsPointer (value_type y))
has_pointer x y (inl h) = inl h.0
has_pointer x y (inr (inl h)) = inl h.0
has_pointer x y (inr (inr h)) = inr h.0

neither : (a b : TypeTree) → (IsPointer a ⊎ IsPointer b) → (both_arithmetic a b ≡ false) × ((is_void a && is_void b) ≡ false)
neither a b (inl h) = (and_left (is_arithmetic a) (is_arithmetic b) (pointer_no_number a h), and_left (is_void a) (is_void b) (pointer_no_void a h))
neither a b (inr h) = (and_right (is_arithmetic a) (is_arithmetic b) (pointer_no_number b h), and_right (is_void a) (is_void b) (pointer_no_void b h))

abbrev unlike : Operand → Operand → OperandOrFault
unlike x y = if is_void (value_type x) && is_void (value_type y) then Ok (value_of Void) else value_if_operands_fit (pointers_join x y) (joined_pointer x y)

either_back : (c x y : Operand) (t : TypeTree) → Chooses c x y t → typed_alternatives x y ≡ Ok (value_of t)
either_back c x y t (s, inl h) = of_type (if_true (both_arithmetic (value_type x) (value_type y)) (Ok (value_of (common_type (value_type x) (value_type y))))
    (unlike x y) (both_back (value_type x) (value_type y) h.0)) h.1
either_back c x y t (s, inr (inl h)) = of_type (
    if_false (both_arithmetic (value_type x) (value_type y)) (Ok (value_of (common_type (value_type x) (value_type y)))) (unlike x y)
    (and_left (is_arithmetic (value_type x)) (is_arithmetic (value_type y)) (void_no_number (value_type x) h.0))
    ∙ if_true (is_void (value_type x) && is_void (value_type y)) (Ok (value_of Void)) (value_if_operands_fit (pointers_join x y) (joined_pointer x y))
    (and_from (is_void (value_type x)) (is_void (value_type y)) h.0 h.1)) h.2
either_back c x y t (s, inr (inr h)) =
    let n = neither (value_type x) (value_type y) (has_pointer x y h.0) in of_type (
    if_false (both_arithmetic (value_type x) (value_type y)) (Ok (value_of (common_type (value_type x) (value_type y)))) (unlike x y) n.0
    ∙ if_false (is_void (value_type x) && is_void (value_type y)) (Ok (value_of Void)) (value_if_operands_fit (pointers_join x y) (joined_pointer x y)) n.1
    ∙ gives_true (pointers_join x y) (joined_pointer x y) (joins_back x y h.0)) h.1

pub chosen_back : (c x y : Operand) (t : TypeTree) → Chooses c x y t → typed_conditional c x y ≡ Ok (value_of t)
chosen_back c x y t h = if_true (is_scalar_value c) (typed_alternatives x y) (Err fault.Operands) h.0 ∙ either_back c x y t h
