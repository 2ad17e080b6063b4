-- A pointer and a number added are a place, or a trap, so that `*` goes on with the sum.
use Rattle.std.proofs.Common.{◌≡◌, ◌⊎◌, ℕ, ℤ, pos, ◌+ℤ◌, ◌*ℤ◌, Bool, true, false, cond, Option, Some, None, Result, Ok, Err, refl, inl, inr}
use Rattle.std.specs.FinMap.{get}
use Rattle.cbi_base.specs.declared.scalar.Scalar.{Scalar}
use Rattle.cbi_base.specs.declared.scalar.Scalar.TheVariants.{Number, Place, Null, Undefined}
use Rattle.cbi_base.specs.declared.operators.Binary.TheVariants as op
use Rattle.cbi_base.specs.declared.trap.Trap.{Trap}
use Rattle.cbi_base.specs.declared.trap.Trap.TheVariants as trap
use Rattle.cbi_base.specs.Objects.{Object, Objects, live_or, moved_pointer, moved_in, ◌>>=◌, moved_by}
use Rattle.c_meaning.specs.declared.operation.Operation.TheVariants.{MoveLeft, MoveRight, Wrong}
use Rattle.c_meaning.specs.declared.value_type.ValueType.{ValueType}
use Rattle.c_meaning.specs.declared.value_type.ValueType.TheVariants as type
use Rattle.c_meaning.specs.Words.{is_pointer_value, is_step_size, operation, operation_result, pointed_place, World, Out, Go, Stop, answer_or_trap, bind}

-- a place, or a trap
abbrev pub GivesPlace : Result Scalar Trap → Type 0
GivesPlace (Ok (Place number offset)) = Unit {0}
GivesPlace (Ok other) = ⊥
GivesPlace (Err t) = Unit {0}

either_place : (b : Bool) (number to : ℕ) → GivesPlace (cond b (Ok (Place number to)) (Err trap.Bounds))
either_place true number to = tt
either_place false number to = tt

found_place : (number : ℕ) (to : ℤ) (found : Option Object) → GivesPlace (live_or found >>= λ object. moved_in number to object)
found_place number to None = tt
found_place number to (Some object) = either_place _ _ _

move_place : (p : Scalar) (cells : ℤ) (o : Objects) → GivesPlace (moved_pointer p cells o)
unfolding moved_pointer
move_place (Place number offset) cells o = found_place number (pos offset +ℤ cells) (get o.live number)
move_place p cells o = tt

by_place : (size : ℤ) (p n : Scalar) (o : Objects) → GivesPlace (moved_by size p n o)
unfolding moved_by
by_place size (Number kind value) (Number other by) o = move_place (Number kind value) (by *ℤ size) o
by_place size (Place number offset) (Number other by) o = move_place (Place number offset) (by *ℤ size) o
by_place size Null (Number other by) o = move_place Null (by *ℤ size) o
by_place size Undefined n o = tt
by_place size (Number kind value) Undefined o = tt
by_place size (Number kind value) (Place number offset) o = tt
by_place size (Number kind value) Null o = tt
by_place size (Place number offset) Undefined o = tt
by_place size (Place number offset) (Place k l) o = tt
by_place size (Place number offset) Null o = tt
by_place size Null Undefined o = tt
by_place size Null (Place number offset) o = tt
by_place size Null Null o = tt

left_moves : (b : Bool) (size : ℕ) (p x : Scalar) (o : Objects) → GivesPlace (operation_result (cond b (MoveLeft (pos size)) Wrong) p x o)
unfolding operation_result
left_moves true size p x o = by_place (pos size) p x o
left_moves false size p x o = tt

right_moves : (b : Bool) (size : ℕ) (p x : Scalar) (o : Objects) → GivesPlace (operation_result (cond b (MoveRight (pos size)) Wrong) p x o)
unfolding operation_result
right_moves true size p x o = by_place (pos size) x p o
right_moves false size p x o = tt

-- a pointer, and whatever else
left_place : (size : ℕ) (right : Option ValueType) (p x : Scalar) (o : Objects) → GivesPlace (operation_result (operation op.Add (Some (type.Pointer size)) right) p x o)
unfolding operation_result
left_place size (Some (type.Number kind)) p x o = left_moves (is_step_size size) size p x o
left_place size right p x o = tt

-- whatever else, and a pointer
right_place : (size : ℕ) (left : Option ValueType) (p x : Scalar) (o : Objects) → GivesPlace (operation_result (operation op.Add left (Some (type.Pointer size))) p x o)
unfolding operation_result
right_place size (Some (type.Number kind)) p x o = right_moves (is_step_size size) size p x o
right_place size left p x o = tt

by_left : (left right : Option ValueType) → is_pointer_value left ≡ true → (p x : Scalar) (o : Objects) → GivesPlace (operation_result (operation op.Add left right) p x o)
by_left (Some (type.Pointer size)) right h p x o = left_place size right p x o
by_left (Some (type.Array size)) right h p x o = left_place size right p x o
by_left left right h p x o = cc

by_right : (left right : Option ValueType) → is_pointer_value right ≡ true → (p x : Scalar) (o : Objects) → GivesPlace (operation_result (operation op.Add left right) p x o)
by_right left (Some (type.Pointer size)) h p x o = right_place size left p x o
by_right left (Some (type.Array size)) h p x o = right_place size left p x o
by_right left right h p x o = cc

pub sum_place : (left right : Option ValueType) → (is_pointer_value left ≡ true) ⊎ (is_pointer_value right ≡ true) → (p x : Scalar) (o : Objects)
    → GivesPlace (operation_result (operation op.Add left right) p x o)
sum_place left right (inl h) p x o = by_left left right h p x o
sum_place left right (inr h) p x o = by_right left right h p x o

sum_end : (r : Result Scalar Trap) (w : World) → GivesPlace r
    → bind (answer_or_trap r w) (λ v. Go v) ≡ bind (bind (answer_or_trap r w) (λ v. Go v)) (λ v u. answer_or_trap (pointed_place v) u)
sum_end (Err t) w h = refl
sum_end (Ok (Place number offset)) w h = refl
sum_end r w h = absurd h

module _ (value : World → Out Scalar) (r : Scalar → Scalar → Objects → Result Scalar Trap) (h : (p x : Scalar) (o : Objects) → GivesPlace (r p x o)) where
  right_end : (p : Scalar) (out : Out Scalar)
      → bind out (λ x y. bind (answer_or_trap (r p x y.objects) y) (λ v. Go v))
      ≡ bind (bind (bind out (λ x y. answer_or_trap (r p x y.objects) y)) (λ v. Go v)) (λ v u. answer_or_trap (pointed_place v) u)
  right_end p (Go x w) = sum_end (r p x w.objects) w (h p x w.objects)
  right_end p (Stop outcome w) = refl

  -- the sum of what stands left and of what stands right is a place
  pub points : (out : Out Scalar)
      → bind out (λ p u. bind (value u) (λ x y. bind (answer_or_trap (r p x y.objects) y) (λ v. Go v)))
      ≡ bind (bind out (λ p u. bind (bind (value u) (λ x y. answer_or_trap (r p x y.objects) y)) (λ v. Go v))) (λ v u. answer_or_trap (pointed_place v) u)
  points (Go p w) = right_end p (value w)
  points (Stop outcome w) = refl
