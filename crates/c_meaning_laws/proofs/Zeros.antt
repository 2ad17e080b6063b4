-- What a list leaves of the elements behind it.
use Rattle.std.proofs.Common.{◌≡◌, ℕ, suc, ◌+◌, ◌≤◌, ◌<◌, ℤ, pos, ◌+ℤ◌, Bool, true, false, cond, map, length, Option, Some, None, Result, Ok, Err, slice_get, slice_set, refl, ap, sym, ◌∙◌, subst, arith}
use Rattle.std.proofs.lemmas.Int.{ints}
use Rattle.std.proofs.lemmas.Option.{slice_get-map}
use Rattle.std.specs.FinMap.{get}
use Rattle.cbi_base.specs.Words.{zero_value, object_filled, filled_in, Object, Objects, found_cell, live_or, loaded_value, moved_pointer, moved_in, set_in, value_stored, with_object}
use Rattle.cbi_base.specs.declared.scalar.Kind.TheVariants as kind
use Rattle.cbi_base.specs.declared.scalar.Scalar.{Scalar}
use Rattle.cbi_base.specs.declared.scalar.Scalar.TheVariants.{Number, Place, Undefined}
use Rattle.cbi_base.specs.declared.scalar.Want.{Want}
use Rattle.cbi_base.specs.declared.scalar.Want.TheVariants as want
use Rattle.cbi_base.specs.declared.trap.Trap.{Trap}
use Rattle.cbi_base.specs.declared.trap.Trap.TheVariants as trap
use Rattle.cbi_base.specs.Objects.{◌>>=◌}
use Rattle.c_syntax.specs.ExprTree as e
use Rattle.c_syntax.specs.ExprTree.{ExprTree, ExprList}
use Rattle.c_meaning.specs.declared.value_type.ValueType.{ValueType}
use Rattle.c_meaning.specs.Words.{as_wanted, conversion, conversion_result, is_null_as, wanted_value, Setting, element_set, elements_set, object_of, on_object, want_of}
use Rattle.c_meaning.specs.Words.{array_zeroed, expr, member_place, store_at, expression_count, type_of, World, Out, Go, answer_or_trap, bind, value_discarded}
use Rattle.c_meaning_laws.specs.Lists.{ItemsLeave, ListLeavesZero, LoadsAlike}
use Rattle.c_meaning_laws.proofs.Objects.{cell_within, load_found, load_in, put_found, set_elsewhere}
use Rattle.c_meaning_laws.proofs.Parts.{Ends, ends_bind, ends_go, ends_known}
use Rattle.c_meaning_laws.proofs.Places.{variable_found}

zero_plus : (n : ℕ) → pos 0 +ℤ pos n ≡ pos n
zero_plus n = omega (arith, ints)

zero_found : (wanted : Want) → found_cell wanted (Some (zero_value wanted)) ≡ Ok (zero_value wanted)
zero_found (want.Number kind.Char) = refl
zero_found (want.Number kind.Int) = refl
zero_found (want.Number kind.Unsigned) = refl
zero_found want.Pointer = refl

module _ (s : Setting) (token : ℕ) (wanted : Want) (number place : ℕ) where
  -- a load of the cell gives zero
  abbrev IsZero : Objects → Type 0
  IsZero o = loaded_value wanted (Place number place) o ≡ Ok (zero_value wanted)

  abbrev Kept : {A : Type 0} → A → World → Type 0
  Kept x w = IsZero w.objects

  put_load : (o : Objects) (object : Object) → loaded_value wanted (Place number place) (with_object o number object) ≡ found_cell wanted (slice_get object.cells place)
  put_load o object =
      load_found wanted number place (with_object o number object) ∙ ap (load_in wanted place) (put_found o number object)

  -- what a store leaves
  abbrev StoredZero : Result Objects Trap → Type 0
  StoredZero (Ok o) = IsZero o
  StoredZero (Err t) = Unit {0}

  set_keeps : (b c : Bool) (index : ℕ) (v : Scalar) (o : Objects) (object : Object) → (index ≡ place → ⊥)
      → found_cell wanted (slice_get object.cells place) ≡ Ok (zero_value wanted)
      → StoredZero (cond b (cond c (Err trap.ReadOnly) (Ok (with_object o number (record object { cells = slice_set object.cells index v })))) (Err trap.Bounds))
  set_keeps true true index v o object other h = tt
  set_keeps true false index v o object other h =
      put_load o (record object { cells = slice_set object.cells index v }) ∙ ap (found_cell wanted) (set_elsewhere object.cells index place v other) ∙ h
  set_keeps false c index v o object other h = tt

  found_keeps : (index : ℕ) (v : Scalar) (o : Objects) (at : Option Object) → (index ≡ place → ⊥) → load_in wanted place at ≡ Ok (zero_value wanted)
      → StoredZero (live_or at >>= set_in number index v o)
  found_keeps index v o None other h = tt
  found_keeps index v o (Some object) other h = set_keeps _ _ index v o object other h

  store_keeps : (index : ℕ) (v : Scalar) (o : Objects) → (index ≡ place → ⊥) → IsZero o → StoredZero (value_stored (Place number index) v o)
  unfolding value_stored
  store_keeps index Undefined o other h = tt
  store_keeps index v o other h = found_keeps index v o (get o.live number) other (sym (load_found wanted number place o) ∙ h)

  answer_keeps : (r : Result Objects Trap) (v : Scalar) (w : World) → StoredZero r
      → Ends Kept (value_discarded (bind (answer_or_trap r w) (λ objects u. Go v (record u { objects = objects }))))
  answer_keeps (Ok o) v w h = h
  answer_keeps (Err t) v w h = tt

  -- where a move leads, from the first cell
  abbrev Moved : ℕ → Result Scalar Trap → Type 0
  Moved index (Ok p) = p ≡ Place number index
  Moved index (Err t) = Unit {0}

  either_moved : (b : Bool) (index : ℕ) → Moved index (cond b (Ok (Place number index)) (Err trap.Bounds))
  either_moved true index = refl
  either_moved false index = tt

  found_moved : (index : ℕ) (at : Option Object) → Moved index (live_or at >>= moved_in number (pos index))
  found_moved index None = tt
  found_moved index (Some object) = either_moved _ index

  moved_to : (index : ℕ) (o : Objects) → Moved index (moved_pointer (Place number 0) (pos index) o)
  unfolding moved_pointer
  moved_to index o =
      subst (λ (i : ℤ). Moved index (live_or (get o.live number) >>= moved_in number i)) (sym (zero_plus index)) (found_moved index (get o.live number))

  answer_moved : (index : ℕ) (r : Result Scalar Trap) (w : World) → Moved index r → Ends (λ p u. (p ≡ Place number index) × (u ≡ w)) (answer_or_trap r w)
  answer_moved index (Ok p) w h = (h, refl)
  answer_moved index (Err t) w h = tt

  answer_kept : (r : Result Scalar Trap) (w : World) → IsZero w.objects → Ends Kept (answer_or_trap r w)
  answer_kept (Ok x) w h = h
  answer_kept (Err t) w h = tt

  -- an item's value, as the element takes it
  item_keeps : (b : Bool) (have of : Option ValueType) (x : ExprTree) (w : World)
      → ((v : Scalar) (u : World) → (expr s x).value w ≡ Go v u → LoadsAlike s token wanted number place w u)
      → IsZero w.objects → Ends Kept (wanted_value b have of (expr s x) w)
  item_keeps true have of x w leaves h = h
  item_keeps false have of x w leaves h =
      ends_bind Kept Kept ((expr s x).value w) (as_wanted (conversion have of)) (ends_known Kept ((expr s x).value w) (λ v u e. leaves v u e ∙ h))
      (λ v u k. answer_kept (conversion_result (conversion have of) v) u k)

  element_keeps : (index : ℕ) (x : ExprTree) (w : World) → object_of s (s.facts.slot_at token) ≡ Some number → (index ≡ place → ⊥)
      → ((v : Scalar) (u : World) → (expr s x).value w ≡ Go v u → LoadsAlike s token wanted number place w u)
      → IsZero w.objects → Ends Kept (element_set s token index x w)
  element_keeps index x w local other leaves h =
      let item : World → Out Scalar = wanted_value (is_null_as (s.facts.element_at token) x) (type_of s.facts x) (s.facts.element_at token) (expr s x) in
      subst (λ out. Ends Kept (bind out (λ a u. bind (member_place (Some index) a u) (λ p y. bind (item y) (λ v t. value_discarded (store_at p v t))))))
      (sym (variable_found s number (s.facts.slot_at token) w local))
      (ends_bind (λ p u. (p ≡ Place number index) × (u ≡ w)) Kept (answer_or_trap (moved_pointer (Place number 0) (pos index) w.objects) w) _
      (answer_moved index (moved_pointer (Place number 0) (pos index) w.objects) w (moved_to index w.objects)) (λ p y k.
      subst (λ (z : World). Ends Kept (bind (item z) (λ v t. value_discarded (store_at p v t)))) (sym k.1)
      (ends_bind Kept Kept (item w) _
      (item_keeps (is_null_as (s.facts.element_at token) x) (type_of s.facts x) (s.facts.element_at token) x w leaves h) (λ v t l.
      subst (λ (q : Scalar). Ends Kept (value_discarded (store_at q v t))) (sym k.0)
      (answer_keeps (value_stored (Place number index) v t.objects) v t (store_keeps index v t.objects other l))))))

  elements_keep : (index : ℕ) (xs : ExprList) (w : World) → object_of s (s.facts.slot_at token) ≡ Some number → index + expression_count xs ≤ place
      → ItemsLeave s token wanted number place index xs w → IsZero w.objects → Ends Kept (elements_set s token index xs w)
  elements_keep index e.no_exprs w local low leave h = h
  elements_keep index (e.more_exprs x rest) w local low leave h =
      let kept : Ends Kept (element_set s token index x w) =
      element_keeps index x w local (λ same. absurd (omega (arith, low, same))) leave.0 h in
      ends_bind (λ y u. IsZero u.objects × (element_set s token index x w ≡ Go y u)) Kept (element_set s token index x w) _
      (ends_known _ (element_set s token index x w) (λ y u e. (ends_go Kept (element_set s token index x w) y u kept e, e)))
      (λ y u k. elements_keep (suc index) rest u local (omega (arith, low)) (leave.1 u k.1) k.0)

  -- all cells are zero first
  zero_first : (o : Objects) (object : Object) → get o.live number ≡ Some object → place < length object.cells → IsZero (object_filled number (zero_value wanted) o)
  zero_first o object live within =
      subst (λ (at : Option Object). IsZero (filled_in o number (zero_value wanted) at)) (sym live)
      (put_load o (record object { cells = map (λ _. zero_value wanted) object.cells })
      ∙ ap (found_cell wanted) (slice_get-map (λ _. zero_value wanted) object.cells place ∙ cell_within (zero_value wanted) object.cells place within)
      ∙ zero_found wanted)

pub list_leaves_zero : ListLeavesZero
list_leaves_zero s token at number place items comma wanted object w u local is live low within leave e =
    let start : World = record w { objects = object_filled number (zero_value wanted) w.objects } in
    let begun : elements_set s token 0 items start ≡ Go tt u =
    subst (λ kind. bind (array_zeroed kind number w) (λ _. elements_set s token 0 items) ≡ Go tt u) is
    (subst (λ o. bind (on_object o (array_zeroed (want_of (s.facts.element_at token))) w) (λ _. elements_set s token 0 items) ≡ Go tt u) local e)
    in ends_go (Kept s token wanted number place) (elements_set s token 0 items start) tt u
    (elements_keep s token wanted number place 0 items start local (omega (arith, low)) leave
    (zero_first s token wanted number place w.objects object live within)) begun
