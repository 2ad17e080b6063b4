-- The operators on two values give values of their types, or trap.
use Rattle.std.proofs.Common.{◌≡◌, ℕ, refl, subst, sym, Some, Ok, Err, Bool}
use Rattle.std.specs.Prelude.{Option, Result, ℤ, pos, not, ◌==◌, ◌-ℤ◌, int_rem, int_div, if◌then◌else◌}
use Rattle.std.specs.FinMap.{get}
use Rattle.std.specs.Ordering.{int_eq}
use Rattle.cbi_base.specs.declared.trap.Trap.{Trap}
use Rattle.cbi_base.specs.declared.trap.Trap.TheVariants as trap
use Rattle.cbi_base.specs.declared.scalar.Kind.{Kind}
use Rattle.cbi_base.specs.declared.scalar.Kind.TheVariants.{Int}
use Rattle.cbi_base.specs.declared.scalar.Scalar.{Scalar}
use Rattle.cbi_base.specs.declared.scalar.Scalar.TheVariants.{Number, Place, Null, Undefined}
use Rattle.cbi_base.specs.declared.operators.Binary.{Binary}
use Rattle.cbi_base.specs.declared.operators.Order.{Order}
use Rattle.cbi_base.specs.declared.operators.Order.TheVariants.{Eq, Ne}
use Rattle.cbi_base.specs.Words.{kind_given, Objects, pointer_comparison, pointer_difference, elements_between, in_order, live_or, of_pointers, same_place, within_one, moved_by, operator_applied}
use Rattle.cbi_base.specs.Objects.{◌>>=◌}
use Rattle.c_meaning.specs.declared.operation.Operation.{Operation}
use Rattle.c_meaning.specs.declared.operation.Operation.TheVariants.{Numbers, MoveLeft, MoveRight, Span, Ordered, Wrong}
use Rattle.c_meaning.specs.declared.value_type.ValueType.{ValueType}
use Rattle.c_meaning.specs.declared.value_type.ValueType.TheVariants as type
use Rattle.c_meaning.specs.Words.{kind_conversion, conversion_result, counted_value, flagged_value, left_kind, operation_result, right_kind, answer_or_trap}
use Rattle.c_meaning_laws.specs.Rules.{IsPointing, IsValue, Moves, Operates}
use Rattle.c_meaning_laws.proofs.Safe.{Any, Calm, Safe, answers, calm_bind, calm_if, calm_map}
use Rattle.c_meaning_laws.proofs.Values.{Fits, IsAt, applied_calm, at_fits, between_calm, number_value, pointing_value, takes_converted}
use Rattle.c_meaning_laws.proofs.Memory.{live_calm, moved_by_calm}

-- no number
abbrev pub IsReference : Scalar → Type 0
IsReference (Number kind value) = ⊥
IsReference v = Unit {0}

pub pointer_reference : (t : Option ValueType) (v : Scalar) → IsPointing t → Fits t v → IsReference v
pointer_reference (Some (type.Pointer size)) (Number k n) h f = f
pointer_reference (Some (type.Array size)) (Number k n) h f = f
pointer_reference t (Number k n) h f = absurd h
pointer_reference t v h f = tt

pointers_calm : {A : Type 0} (P : A → Type 0) (x y : Scalar) (answer : Result A Trap) → IsReference x → IsReference y → Calm P answer
    → Calm P (of_pointers x y answer)
pointers_calm P Undefined y answer h k c = tt
pointers_calm P Null Undefined answer h k c = tt
pointers_calm P (Place a i) Undefined answer h k c = tt
pointers_calm P (Number k n) y answer h l c = absurd h
pointers_calm P Null (Number k n) answer h l c = absurd l
pointers_calm P (Place a i) (Number k n) answer h l c = absurd l
pointers_calm P Null Null answer h k c = c
pointers_calm P Null (Place b j) answer h k c = c
pointers_calm P (Place a i) Null answer h k c = c
pointers_calm P (Place a i) (Place b j) answer h k c = c

within_calm : {A : Type 0} (P : A → Type 0) (x y : Scalar) (o : Objects) (use_them : ℕ → ℕ → Result A Trap) → ((i j : ℕ) → Calm P (use_them i j))
    → Calm P (within_one x y o use_them)
within_calm P (Place a i) (Place b j) o use_them c =
    let last : Calm P (if a == b then use_them i j else Err trap.Unrelated) = calm_if P (a == b) (use_them i j) (Err trap.Unrelated) (c i j) tt in
    calm_bind Any P (live_or (get o.live a)) (λ _. live_or (get o.live b) >>= λ _. if a == b then use_them i j else Err trap.Unrelated)
    (live_calm (get o.live a))
    (λ _ _. calm_bind Any P (live_or (get o.live b)) (λ _. if a == b then use_them i j else Err trap.Unrelated) (live_calm (get o.live b)) (λ _ _. last))
within_calm P (Place a i) Null o use_them c = tt
within_calm P (Place a i) Undefined o use_them c = tt
within_calm P (Place a i) (Number k n) o use_them c = tt
within_calm P Null y o use_them c = tt
within_calm P Undefined y o use_them c = tt
within_calm P (Number k n) y o use_them c = tt

ordered_calm : (order : Order) (x y : Scalar) (o : Objects) → IsReference x → IsReference y
    → Calm Any (of_pointers x y (within_one x y o (λ i j. Ok (in_order order i j))))
ordered_calm order x y o h k =
    pointers_calm Any x y (within_one x y o (λ i j. Ok (in_order order i j))) h k (within_calm Any x y o (λ i j. Ok (in_order order i j)) (λ i j. tt))

compared_calm : (order : Order) (x y : Scalar) (o : Objects) → IsReference x → IsReference y → Calm Any (pointer_comparison order x y o)
unfolding pointer_comparison
compared_calm Eq x y o h k = pointers_calm Any x y (Ok (same_place x y)) h k tt
compared_calm Ne x y o h k = pointers_calm Any x y (Ok (not (same_place x y))) h k tt
compared_calm order x y o h k = ordered_calm order x y o h k

difference_calm : (x y : Scalar) (size : ℕ) (o : Objects) → IsReference x → IsReference y → Calm Any (pointer_difference x y size o)
unfolding pointer_difference
difference_calm x y size o h k =
    pointers_calm Any x y (within_one x y o (λ i j. elements_between size (pos i -ℤ pos j))) h k (within_calm Any x y o (λ i j. elements_between size (pos i -ℤ pos j))
    (λ i j. calm_if Any (int_eq (int_rem (pos i -ℤ pos j) (pos size)) (pos 0)) (Ok (int_div (pos i -ℤ pos j) (pos size))) (Err trap.Bounds) tt tt))

flagged_calm : (r : Result Bool Trap) → Calm Any r → Calm (Fits (Some (type.Number Int))) (flagged_value r)
flagged_calm (Ok b) h = refl
flagged_calm (Err t) h = h

counted_calm : (r : Result ℤ Trap) → Calm Any r → Calm (Fits (Some (type.Number Int))) (counted_value r)
counted_calm (Ok n) h = refl
counted_calm (Err t) h = h

numbers_calm : (o : Binary) (l r : Kind) (x y : Scalar) → Fits (Some (type.Number l)) x → Fits (Some (type.Number r)) y
    → Calm (Fits (Some (type.Number (kind_given o (left_kind o l r))))) (conversion_result (kind_conversion l (left_kind o l r)) x >>= λ a. conversion_result
    (kind_conversion r (right_kind o l r)) y >>= λ b. operator_applied o a b)
numbers_calm o l r x y f g =
    calm_bind (Fits (Some (type.Number (left_kind o l r)))) (Fits (Some (type.Number (kind_given o (left_kind o l r)))))
    (conversion_result (kind_conversion l (left_kind o l r)) x)
    (λ a. conversion_result (kind_conversion r (right_kind o l r)) y >>= λ b. operator_applied o a b) (between_calm l (left_kind o l r) x f) (λ a p.
    calm_bind (Fits (Some (type.Number (right_kind o l r)))) (Fits (Some (type.Number (kind_given o (left_kind o l r)))))
    (conversion_result (kind_conversion r (right_kind o l r)) y)
    (λ b. operator_applied o a b) (between_calm r (right_kind o l r) y g) (λ b q. applied_calm o (left_kind o l r) (right_kind o l r) a b (takes_converted o l r) p q))

pub operate_calm : (o : Operation) (left right t : Option ValueType) (x y : Scalar) (objects : Objects) → Operates o left right t → Fits left x → Fits right y
    → Calm (Fits t) (operation_result o x y objects)
unfolding operation_result
operate_calm (Numbers o l r) left right t x y objects h f g = rw h.2 (numbers_calm o l r x y (subst (λ a. Fits a x) h.0 f) (subst (λ a. Fits a y) h.1 g))
operate_calm (MoveLeft size) left right t x y objects h f g =
    calm_map IsAt (Fits t) (moved_by size x y objects) (λ v. at_fits t v h.2) (moved_by_calm size left right x y objects h.0 h.1 f g)
operate_calm (MoveRight size) left right t x y objects h f g =
    calm_map IsAt (Fits t) (moved_by size y x objects) (λ v. at_fits t v h.2) (moved_by_calm size right left y x objects h.1 h.0 g f)
operate_calm (Span size) left right t x y objects h f g =
    rw h.2 (counted_calm (pointer_difference x y size objects) (difference_calm x y size objects (pointer_reference left x h.0 f) (pointer_reference right y h.1 g)))
operate_calm (Ordered o) left right t x y objects h f g =
    rw h.2 (flagged_calm (pointer_comparison o x y objects) (compared_calm o x y objects (pointer_reference left x h.0 f) (pointer_reference right y h.1 g)))
operate_calm Wrong left right t x y objects h f g = absurd h

pub operate_safe : (o : Operation) (left right t : Option ValueType) (x y : Scalar) → Operates o left right t → Fits left x → Fits right y
    → Safe (Fits t) (λ w. answer_or_trap (operation_result o x y w.objects) w) (λ w. answer_or_trap (operation_result o x y w.objects) w)
operate_safe o left right t x y h f g = answers (λ w. operation_result o x y w.objects) (λ w. refl) (λ w. operate_calm o left right t x y w.objects h f g)

-- a moved pointer is a place
moves_calm : (o : Operation) (left right : Option ValueType) (x y : Scalar) (objects : Objects) → Moves o left right → Fits left x → Fits right y
    → Calm IsAt (operation_result o x y objects)
unfolding operation_result
moves_calm (MoveLeft size) left right x y objects h f g = moved_by_calm size left right x y objects h.0 h.1 f g
moves_calm (MoveRight size) left right x y objects h f g = moved_by_calm size right left y x objects h.1 h.0 g f
moves_calm o left right x y objects h f g = absurd h

pub moves_safe : (o : Operation) (left right : Option ValueType) (x y : Scalar) → Moves o left right → Fits left x → Fits right y
    → Safe IsAt (λ w. answer_or_trap (operation_result o x y w.objects) w) (λ w. answer_or_trap (operation_result o x y w.objects) w)
moves_safe o left right x y h f g = answers (λ w. operation_result o x y w.objects) (λ w. refl) (λ w. moves_calm o left right x y w.objects h f g)

pub moves_values : (o : Operation) (left right : Option ValueType) → Moves o left right → IsValue left × IsValue right
moves_values (MoveLeft size) left right h = (pointing_value left h.0, number_value right h.1)
moves_values (MoveRight size) left right h = (number_value left h.0, pointing_value right h.1)
moves_values o left right h = absurd h

number_is : (kind : Kind) (t : Option ValueType) → t ≡ Some (type.Number kind) → IsValue t
number_is kind t e = subst IsValue (sym e) tt

pub operates_value : (o : Operation) (left right t : Option ValueType) → Operates o left right t → IsValue right
operates_value (Numbers o l r) left right t h = number_is r right h.1
operates_value (MoveLeft size) left right t h = number_value right h.1
operates_value Wrong left right t h = absurd h
operates_value o left right t h = pointing_value right h.1
