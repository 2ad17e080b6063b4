-- What a store leaves.
use Rattle.std.proofs.Common.{◌≡◌, ℕ, zero, suc, ◌<◌, ◌==◌, Bool, true, false, cond, nat_lt, if◌then◌else◌, List, [], ◌∷◌, length, slice_get}
use Rattle.std.proofs.Common.{slice_set, Option, Some, None, Ok, Err, refl, ap, sym, ◌∙◌, arith}
use Rattle.std.specs.Ordering.{nat_cmp}
use Rattle.std.specs.Cmp.{nat_cmp_total}
use Rattle.std.specs.Option.{option_and_then}
use Rattle.std.specs.FinMap.{FinMap, get, insert, get-insert}
use Rattle.std.proofs.lemmas.Bool.Decides.{nat_tests}
use Rattle.base_lists.proofs.Numbers.{key_apart, key_itself}
use Rattle.cbi_base.specs.declared.scalar.Scalar.{Scalar}
use Rattle.cbi_base.specs.declared.scalar.Scalar.TheVariants.{Place, Undefined}
use Rattle.cbi_base.specs.declared.scalar.Want.{Want}
use Rattle.cbi_base.specs.declared.trap.Trap.TheVariants as trap
use Rattle.cbi_base.specs.Objects.{Object, Objects, is_text, is_wanted, loaded_value, value_stored}
use Rattle.c_store.specs.Word.{cell_of}
use Rattle.c_store.specs.Written.{with_cell, put_back, stored_in}
use Rattle.c_store.proofs.Storing.{stored_place, with_live}
use Rattle.c_store.proofs.Loading.{loaded_there, cell_there}

-- an object that a value was stored in
record IsStored (number offset : ℕ) (value : Scalar) (o p : Objects) : Type 0 where
  object : Object
  there : get o.live number ≡ Some object
  within : offset < length object.cells
  live : p.live ≡ insert o.live number (with_cell offset value object)

by_tests : (number offset : ℕ) (value : Scalar) (o p : Objects) (object : Object) (b t : Bool) → get o.live number ≡ Some object →
    nat_lt offset (length object.cells) ≡ b →
    with_live o (put_back o.live number (if b then (if t then Err trap.ReadOnly else Ok (with_cell offset value object)) else Err trap.Bounds)) ≡ Ok p → IsStored number offset value o p
by_tests number offset value o p object false t there within is = absurd cc
by_tests number offset value o p object true true there within is = absurd cc
by_tests number offset value o p object true false there within is =
    let same : record o { live = insert o.live number (with_cell offset value object) } ≡ p = cc in
    record { object = object; there = there; within = grind (arith, nat_tests); live = sym (ap (λ q. q.live) same) }

by_object : (number offset : ℕ) (value : Scalar) (o p : Objects) (found : Option Object) → get o.live number ≡ found →
    with_live o (stored_in number offset value found o.live) ≡ Ok p → IsStored number offset value o p
by_object number offset value o p None there is = absurd cc
by_object number offset value o p (Some object) there is =
    by_tests number offset value o p object (nat_lt offset (length object.cells)) (is_text object.class) there refl is

was_stored : (number offset : ℕ) (value : Scalar) (o p : Objects) → value_stored (Place number offset) value o ≡ Ok p → IsStored number offset value o p
unfolding value_stored
was_stored number offset Undefined o p is = absurd cc
was_stored number offset value o p is = by_object number offset value o p (get o.live number) refl (sym (stored_place number offset value o (λ no. cc)) ∙ is)

set_here : (cells : List Scalar) (i : ℕ) (value : Scalar) → i < length cells → slice_get (slice_set cells i value) i ≡ Some value
set_here [] i value within = absurd (omega arith)
set_here (c ∷ cells) zero value within = refl
set_here (c ∷ cells) (suc i) value within = set_here cells i value (omega arith)

set_elsewhere : (cells : List Scalar) (i j : ℕ) (value : Scalar) → (j ≡ i → ⊥) → slice_get (slice_set cells i value) j ≡ slice_get cells j
set_elsewhere (c ∷ cells) zero zero value other = absurd (other refl)
set_elsewhere (c ∷ cells) (suc i) (suc j) value other = set_elsewhere cells i j value (λ same. other (ap suc same))
set_elsewhere cells i j value other = refl

get_same : (m : FinMap nat_cmp Object) (k : ℕ) (b : Object) → get (insert m k b) k ≡ Some b
get_same m k b = get-insert nat_cmp_total m k b k ∙ ap (λ t. cond t (Some b) (get m k)) (key_itself k)

get_other : (m : FinMap nat_cmp Object) (j k : ℕ) (b : Object) → (j ≡ k → ⊥) → get (insert m k b) j ≡ get m j
get_other m j k b other = get-insert nat_cmp_total m k b j ∙ ap (λ t. cond t (Some b) (get m j)) (key_apart j k other)

-- a load finds what was stored
pub stored_found : (number offset : ℕ) (value : Scalar) (o p : Objects) (w : Want) → value_stored (Place number offset) value o ≡ Ok p →
    is_wanted w value ≡ true → loaded_value w (Place number offset) p ≡ Ok value
stored_found number offset value o p w is wanted =
    let s = was_stored number offset value o p is in
    let there : get p.live number ≡ Some (with_cell offset value s.object) = ap (λ m. get m number) s.live
    ∙ get_same o.live number (with_cell offset value s.object) in
    loaded_there w number offset value p (cell_there number offset value p (with_cell offset value s.object) there (set_here s.object.cells offset value s.within)) wanted

-- every other cell stays
pub others_stay : (number offset other at : ℕ) (value : Scalar) (o p : Objects) → value_stored (Place number offset) value o ≡ Ok p → (other ≡ number →
    at ≡ offset → ⊥) → cell_of other at p ≡ cell_of other at o
others_stay number offset other at value o p is differ =
    let s = was_stored number offset value o p is in
    elim (other == number) as (λ (t : Bool). (other == number) ≡ t → cell_of other at p ≡ cell_of other at o) [
      | true ↦ λ same.
          let equal : other ≡ number = grind (arith, nat_tests) in
          ap (λ m. option_and_then (λ object. slice_get object.cells at) (get m other)) s.live
          ∙ ap (λ n. option_and_then (λ object. slice_get object.cells at) (get (insert o.live number (with_cell offset value s.object)) n)) equal
          ∙ ap (option_and_then (λ object. slice_get object.cells at)) (get_same o.live number (with_cell offset value s.object))
          ∙ set_elsewhere s.object.cells offset at value (differ equal)
          ∙ sym (ap (option_and_then (λ object. slice_get object.cells at)) (ap (get o.live) equal ∙ s.there))
      | false ↦ λ apart.
          ap (λ m. option_and_then (λ object. slice_get object.cells at) (get m other)) s.live
          ∙ ap (option_and_then (λ object. slice_get object.cells at)) (get_other o.live other number (with_cell offset value s.object) (λ same. let yes : (other == number) ≡ true = grind (arith, nat_tests) in let no : true ≡ false = sym yes ∙ apart in cc))
    ] refl
