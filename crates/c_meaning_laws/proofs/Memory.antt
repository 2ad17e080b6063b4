-- Objects: what is loaded has the type that was wanted, what was stored is there, and no place that is one comes to trap Internal.
use Rattle.std.proofs.Common.{◌≡◌, ℕ, refl, ap, ◌∙◌, List, [], ◌∷◌, Some, None, ◌+◌, Ok, Err, Bool, true, false, length, cond}
use Rattle.std.specs.Prelude.{Option, ℤ, pos, slice_get, slice_set, nat_lt, if◌then◌else◌, unsigned_abs, ◌+ℤ◌, ◌*ℤ◌, int_le, ◌&&◌, ◌==◌, replicate}
use Rattle.std.proofs.lemmas.Cmp.{nat_cmp_total}
use Rattle.std.specs.FinMap.{get, insert, get-insert}
use Rattle.cbi_base.specs.Words.{char_of, Objects, Object, loaded_value, value_stored, found_cell, live_or, set_in, moved_pointer, moved_by, stored_bytes, moved_in, with_object}
use Rattle.cbi_base.specs.Words.{is_text, object_allocated, place_or_null, made_with, object_released, is_heap_start, object_killed}
use Rattle.base_lists.proofs.Numbers.{key_itself}
use Rattle.cbi_base.specs.declared.trap.Trap.TheVariants as trap
use Rattle.cbi_base.specs.declared.scalar.Class.TheVariants.{Heap}
use Rattle.cbi_base.specs.declared.scalar.Kind.{Kind}
use Rattle.cbi_base.specs.declared.scalar.Kind.TheVariants.{Char, Int, Unsigned}
use Rattle.cbi_base.specs.declared.scalar.Want.{Want}
use Rattle.cbi_base.specs.declared.scalar.Want.TheVariants as want
use Rattle.cbi_base.specs.declared.scalar.Scalar.{Scalar}
use Rattle.cbi_base.specs.declared.scalar.Scalar.TheVariants.{Number, Place, Null, Undefined}
use Rattle.cbi_base.specs.Objects.{◌>>=◌}
use Rattle.c_meaning.specs.declared.value_type.ValueType.{ValueType}
use Rattle.c_meaning.specs.declared.value_type.ValueType.TheVariants as type
use Rattle.c_meaning.specs.Words.{load_at, pointed_place}
use Rattle.c_meaning_laws.specs.Rules.{IsNumberType, IsPointing, IsPointer, IsValue}
use Rattle.c_meaning_laws.proofs.Safe.{Any, Calm, Safe, answers, calm_bind, calm_if, gives}
use Rattle.c_meaning_laws.proofs.Values.{Fits, IsAt}

-- loads
wanted_number : (kind other : Kind) (n : ℤ) → Calm (Fits (Some (type.Number kind))) (found_cell (want.Number kind) (Some (Number other n)))
wanted_number Char Char n = refl
wanted_number Int Int n = refl
wanted_number Unsigned Unsigned n = refl
wanted_number kind other n = tt

found_number : (kind : Kind) (o : Option Scalar) → Calm (Fits (Some (type.Number kind))) (found_cell (want.Number kind) o)
found_number kind None = tt
found_number kind (Some Undefined) = tt
found_number kind (Some (Number other n)) = wanted_number kind other n
found_number Char (Some Null) = tt
found_number Int (Some Null) = tt
found_number Unsigned (Some Null) = tt
found_number Char (Some (Place a i)) = tt
found_number Int (Some (Place a i)) = tt
found_number Unsigned (Some (Place a i)) = tt

found_pointer : (size : ℕ) (o : Option Scalar) → Calm (Fits (Some (type.Pointer size))) (found_cell want.Pointer o)
found_pointer size None = tt
found_pointer size (Some Undefined) = tt
found_pointer size (Some (Number other n)) = tt
found_pointer size (Some Null) = tt
found_pointer size (Some (Place a i)) = tt

pub live_calm : (o : Option Object) → Calm Any (live_or o)
live_calm None = tt
live_calm (Some object) = tt

loaded_calm : (t : ValueType) (w : Want) (p : Scalar) (o : Objects) → IsAt p → ((c : Option Scalar) → Calm (Fits (Some t)) (found_cell w c))
    → Calm (Fits (Some t)) (loaded_value w p o)
unfolding loaded_value
loaded_calm t w (Place a i) o h f =
    calm_bind Any (Fits (Some t)) (live_or (get o.live a)) (λ object. found_cell w (slice_get object.cells i)) (live_calm (get o.live a))
    (λ object _. f (slice_get object.cells i))
loaded_calm t w p o h f = absurd h

pub load_safe : (t : Option ValueType) (p : Scalar) → IsValue t → IsAt p → Safe (Fits t) (load_at t p) (load_at t p)
load_safe (Some (type.Number kind)) p h a =
    answers (λ w. loaded_value (want.Number kind) p w.objects) (λ w. refl) (λ w. loaded_calm (type.Number kind) (want.Number kind) p w.objects a
    (found_number kind))
load_safe (Some (type.Pointer size)) p h a =
    answers (λ w. loaded_value want.Pointer p w.objects) (λ w. refl) (λ w. loaded_calm (type.Pointer size) want.Pointer p w.objects a (found_pointer size))
load_safe (Some (type.Array size)) (Place a i) h k = gives (Place a i) tt
load_safe (Some (type.Array size)) Undefined h k = absurd k
load_safe (Some (type.Array size)) Null h k = absurd k
load_safe (Some (type.Array size)) (Number j n) h k = absurd k
load_safe t p h k = absurd h

-- the first cell of the object holds a number
pub record Holds (number : ℕ) (o : Objects) : Type 0 where
  pub object : Object
  pub kind : Kind
  pub value : ℤ
  pub lives : get o.live number ≡ Some object
  pub first : slice_get object.cells 0 ≡ Some (Number kind value)

written : (number : ℕ) (o : Objects) (object : Object) → get (insert o.live number object) number ≡ Some object
written number o object = get-insert nat_cmp_total o.live number object number ∙ ap (λ b. cond b (Some object) (get o.live number)) (key_itself number)

set_calm : (number : ℕ) (kind : Kind) (n : ℤ) (o : Objects) (object : Object) (cells : List Scalar)
    → Calm (Holds number) (set_in number 0 (Number kind n) o (record object { cells = cells }))
set_calm number kind n o object [] = tt
set_calm number kind n o object (c ∷ cells) =
    let set : Object = record object { cells = Number kind n ∷ cells } in
    calm_if (Holds number) (nat_lt 0 (length (c ∷ cells))) (if is_text object.class then Err trap.ReadOnly else Ok (with_object o number set))
    (Err trap.Bounds)
    (calm_if (Holds number) (is_text object.class) (Err trap.ReadOnly) (Ok (with_object o number set)) tt
    (record { object = set; kind = kind; value = n; lives = written number o set; first = refl })) tt

set_any : (number offset : ℕ) (v : Scalar) (o : Objects) (object : Object) → Calm Any (set_in number offset v o object)
set_any number offset v o object =
    let set : Object = record object { cells = slice_set object.cells offset v } in
    calm_if Any (nat_lt offset (length object.cells)) (if is_text object.class then Err trap.ReadOnly else Ok (with_object o number set)) (Err trap.Bounds)
    (calm_if Any (is_text object.class) (Err trap.ReadOnly) (Ok (with_object o number set)) tt tt) tt

-- what is stored in a variable is there
stored_number : (number : ℕ) (kind : Kind) (v : Scalar) (o : Objects) → Fits (Some (type.Number kind)) v → Calm (Holds number) (value_stored (Place number 0) v o)
unfolding value_stored
stored_number number kind Undefined o h = tt
stored_number number kind (Number k n) o h = calm_bind Any (Holds number) (live_or (get o.live number)) (set_in number 0 (Number k n) o)
    (live_calm (get o.live number))
    (λ object _. set_calm number k n o object object.cells)
stored_number number kind Null o h = absurd h
stored_number number kind (Place a i) o h = absurd h

pub stored_holds : (t : Option ValueType) (number : ℕ) (v : Scalar) (o : Objects) → IsNumberType t → Fits t v → Calm (Holds number) (value_stored (Place number 0) v o)
stored_holds (Some (type.Number kind)) number v o h f = stored_number number kind v o f
stored_holds t number v o h f = absurd h

set_at : (a i : ℕ) (v : Scalar) (o : Objects) → Calm Any (live_or (get o.live a) >>= set_in a i v o)
set_at a i v o = calm_bind Any Any (live_or (get o.live a)) (set_in a i v o) (live_calm (get o.live a)) (λ object _. set_any a i v o object)

pub stored_calm : (p v : Scalar) (o : Objects) → IsAt p → Calm Any (value_stored p v o)
unfolding value_stored
stored_calm (Place a i) Undefined o h = tt
stored_calm (Place a i) (Number k n) o h = set_at a i (Number k n) o
stored_calm (Place a i) Null o h = set_at a i Null o
stored_calm (Place a i) (Place b j) o h = set_at a i (Place b j) o
stored_calm p v o h = absurd h

pub spelled_calm : (number offset : ℕ) (bytes : List ℕ) (o : Objects) → Calm Any (stored_bytes number offset bytes o)
spelled_calm number offset [] o = tt
spelled_calm number offset (byte ∷ bytes) o = calm_bind Any Any (value_stored (Place number offset) (char_of byte) o) (stored_bytes number (offset + 1) bytes)
    (stored_calm (Place number offset) (char_of byte) o tt) (λ more _. spelled_calm number (offset + 1) bytes more)

-- pointers that are moved and used
pub moved_calm : (t : Option ValueType) (p : Scalar) (cells : ℤ) (o : Objects) → IsPointing t → Fits t p → Calm IsAt (moved_pointer p cells o)
unfolding moved_pointer
moved_calm t Undefined cells o h f = tt
moved_calm t Null cells o h f = tt
moved_calm t (Place a i) cells o h f =
    calm_bind Any IsAt (live_or (get o.live a)) (λ object. moved_in a (pos i +ℤ cells) object) (live_calm (get o.live a))
    (λ object _. calm_if IsAt (int_le (pos 0) (pos i +ℤ cells) && int_le (pos i +ℤ cells) (pos (length object.cells)))
    (Ok (Place a (unsigned_abs (pos i +ℤ cells)))) (Err trap.Bounds) tt tt)
moved_calm (Some (type.Pointer size)) (Number k n) cells o h f = absurd f
moved_calm (Some (type.Array size)) (Number k n) cells o h f = absurd f
moved_calm t (Number k n) cells o h f = absurd h

pub moved_at : (p : Scalar) (cells : ℤ) (o : Objects) → IsAt p → Calm IsAt (moved_pointer p cells o)
moved_at (Place a i) cells o h = moved_calm (Some (type.Array 0)) (Place a i) cells o tt tt
moved_at p cells o h = absurd h

pub moved_by_calm : (size : ℤ) (left right : Option ValueType) (p by : Scalar) (o : Objects) → IsPointing left → IsNumberType right → Fits left p → Fits right by
    → Calm IsAt (moved_by size p by o)
unfolding moved_by
moved_by_calm size left right Undefined by o h k f g = tt
moved_by_calm size left right Null Undefined o h k f g = tt
moved_by_calm size left right (Place a i) Undefined o h k f g = tt
moved_by_calm size left right (Number j n) Undefined o h k f g = tt
moved_by_calm size left right Null (Number k n) o h q f g = moved_calm left Null (n *ℤ size) o h f
moved_by_calm size left right (Place a i) (Number k n) o h q f g = moved_calm left (Place a i) (n *ℤ size) o h f
moved_by_calm size left right (Number j m) (Number k n) o h q f g = moved_calm left (Number j m) (n *ℤ size) o h f
moved_by_calm size left (Some (type.Number kind)) p by o h q f g = absurd g
moved_by_calm size left right p by o h q f g = absurd q

pub pointed_calm : (t : Option ValueType) (v : Scalar) → IsPointing t → Fits t v → Calm IsAt (pointed_place v)
pointed_calm (Some (type.Pointer size)) (Number k n) h f = absurd f
pointed_calm (Some (type.Array size)) (Number k n) h f = absurd f
pointed_calm t (Number k n) h f = absurd h
pointed_calm t v h f = tt

-- `malloc` and `free`
made_fits : (t : Option ValueType) (number : ℕ) (o : Objects) (made : Option Objects) → IsPointer t → Fits t (place_or_null number o made).0
made_fits (Some (type.Pointer size)) number o None h = tt
made_fits (Some (type.Pointer size)) number o (Some objects) h = tt
made_fits t number o made h = absurd h

pub allocated_fits : (t : Option ValueType) (cells : ℕ) (o : Objects) → IsPointer t → Fits t (object_allocated cells o).0
unfolding object_allocated
allocated_fits t cells o h = either (cells == 0)
  where
    either : (b : Bool) → Fits t (if b then (Null, o) else place_or_null o.made o (made_with Heap (replicate cells Undefined) o)).0
    either true = made_fits t 0 o None h
    either false = made_fits t o.made o (made_with Heap (replicate cells Undefined) o) h

pub released_calm : (t : Option ValueType) (p : Scalar) (o : Objects) → IsPointing t → Fits t p → Calm Any (object_released p o)
unfolding object_released
released_calm t Undefined o h f = tt
released_calm t Null o h f = tt
released_calm t (Place a i) o h f = calm_if Any (is_heap_start i (get o.live a)) (Ok (object_killed a o)) (Err trap.BadFree) tt tt
released_calm (Some (type.Pointer size)) (Number k n) o h f = absurd f
released_calm (Some (type.Array size)) (Number k n) o h f = absurd f
released_calm t (Number k n) o h f = absurd h
