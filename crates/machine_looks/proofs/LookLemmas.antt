-- A number that is at hand is the one that a site looks at.
use Rattle.std.proofs.Common.{◌≡◌, ℕ, ℤ, pos, slice_get, Option, Some, None, Ok, ap, sym, ◌∙◌}
use Rattle.std.specs.Prelude.{IfSome}
use Rattle.std.specs.Option.{option_and_then}
use Rattle.std.specs.FinMap.{get}
use Rattle.std.specs.Ordering.{int_cmp}
use Rattle.cbi_base.specs.Words.{Locals, Object, Objects, local_at, loaded_value, sign_of}
use Rattle.cbi_base.specs.Objects.{◌>>=◌, live_or, found_cell}
use Rattle.cbi_base.specs.declared.scalar.Kind.TheVariants.{Char, Int, Unsigned}
use Rattle.cbi_base.specs.declared.scalar.Scalar.{Scalar}
use Rattle.cbi_base.specs.declared.scalar.Scalar.TheVariants.{Number, Place, Null, Undefined}
use Rattle.cbi_base.specs.declared.scalar.Want.TheVariants as want
use Rattle.c_store.specs.Word.{int_of, value_of_number}
use Rattle.flow.specs.Truths.{first_cell, number_seen}
use Rattle.flow.specs.Words.{number_at, seen_order, seen_sign}
use Rattle.flow.specs.declared.site.Slot.TheVariants as slot

in_cell : (cell : Option Scalar) (value : Scalar) (n : ℤ) → found_cell (want.Number Int) cell ≡ Ok value → int_of value ≡ Some n → number_seen cell ≡ Some n
in_cell None value n found is = absurd cc
in_cell (Some Undefined) value n found is = absurd cc
in_cell (Some (Number Int v)) value n found is =
    let same : Number Int v ≡ value = cc in
    ap int_of same ∙ is
in_cell (Some (Number Char v)) value n found is = absurd cc
in_cell (Some (Number Unsigned v)) value n found is = absurd cc
in_cell (Some (Place object offset)) value n found is = absurd cc
in_cell (Some Null) value n found is = absurd cc

in_object : (object : Option Object) (value : Scalar) (n : ℤ) → (live_or object >>= λ o. found_cell (want.Number Int) (slice_get o.cells 0)) ≡ Ok value →
    int_of value ≡ Some n → number_seen (option_and_then first_cell object) ≡ Some n
in_object None value n found is = absurd cc
in_object (Some object) value n found is = in_cell (slice_get object.cells 0) value n found is

in_place : (object : ℕ) (value : Scalar) (n : ℤ) (objects : Objects) → loaded_value (want.Number Int) (Place object 0) objects ≡ Ok value → int_of value ≡ Some n →
    number_seen (option_and_then first_cell (get objects.live object)) ≡ Some n
unfolding loaded_value
in_place object value n objects found is = in_object (get objects.live object) value n found is

pub local_there : (index object : ℕ) (value : Scalar) (n : ℤ) (locals : Locals) (objects : Objects) → local_at index locals ≡ Some object →
    loaded_value (want.Number Int) (Place object 0) objects ≡ Ok value → int_of value ≡ Some n → number_at (slot.Local index) locals objects ≡ Some n
local_there index object value n locals objects there found is =
    ap (λ number. number_seen (option_and_then first_cell (option_and_then (get objects.live) number))) there ∙ in_place object value n objects found is

pub global_there : (index : ℕ) (pointer value : Scalar) (number : Option ℤ) (locals : Locals) (objects : Objects) → pointer ≡ Place index 0 →
    loaded_value (want.Number Int) pointer objects ≡ Ok value → number ≡ int_of value → IfSome number (λ n. number_at (slot.Global index) locals objects ≡ Some n)
global_there index pointer value None locals objects at found is = tt
global_there index pointer value (Some n) locals objects at found is =
    in_place index value n objects (ap (λ place. loaded_value (want.Number Int) place objects) (sym at) ∙ found) (sym is)

pub sign_there : (value : Scalar) (n : ℤ) → value_of_number value ≡ Some n → seen_sign (sign_of value) ≡ seen_order (int_cmp n (pos 0))
sign_there (Number kind v) n is = let same : v ≡ n = cc in ap (λ m. seen_order (int_cmp m (pos 0))) same
sign_there (Place object offset) n is = absurd cc
sign_there Null n is = absurd cc
sign_there Undefined n is = absurd cc
