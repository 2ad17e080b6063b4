-- Loads of cells that are found at once.
use Rattle.std.proofs.Common.{◌≡◌, ◌≤◌, ℕ, ℤ, pos, ◌+ℤ◌, int_le, length, arith, true, false, if◌then◌else◌, slice_get, Option, Some, None, Ok, Err, refl, ap, sym, ◌∙◌}
use Rattle.std.specs.Option.{option_and_then}
use Rattle.std.specs.FinMap.{get}
use Rattle.cbi_base.specs.declared.scalar.Scalar.{Scalar}
use Rattle.cbi_base.specs.declared.scalar.Scalar.TheVariants.{Number, Place, Undefined}
use Rattle.cbi_base.specs.declared.scalar.Kind.TheVariants as kind
use Rattle.cbi_base.specs.declared.scalar.Want.{Want}
use Rattle.cbi_base.specs.declared.scalar.Want.TheVariants as want
use Rattle.cbi_base.specs.declared.trap.Trap.TheVariants as trap
use Rattle.cbi_base.specs.Objects.{Object, Objects, ◌>>=◌, live_or, is_wanted, found_cell, loaded_value, moved_pointer, moved_in}
use Rattle.c_store.specs.Word.{cell_of}
use Rattle.std.proofs.lemmas.Bool.Decides.{nat_tests}

undefined_unwanted : (w : Want) → is_wanted w Undefined ≡ false
undefined_unwanted (want.Number kind.Char) = refl
undefined_unwanted (want.Number kind.Int) = refl
undefined_unwanted (want.Number kind.Unsigned) = refl
undefined_unwanted want.Pointer = refl

wanted_found : (w : Want) (value : Scalar) → is_wanted w value ≡ true → found_cell w (Some value) ≡ Ok value
wanted_found w Undefined is = absurd (let no : true ≡ false = sym is ∙ undefined_unwanted w in cc)
wanted_found w value is = ap (λ b. if b then Ok value else Err trap.WrongKind) is

in_object : (w : Want) (offset : ℕ) (value : Scalar) (object : Option Object) → option_and_then (λ o. slice_get o.cells offset) object ≡ Some value →
    is_wanted w value ≡ true →
    (live_or object >>= λ o. found_cell w (slice_get o.cells offset)) ≡ Ok value
in_object w offset value None is wanted = absurd cc
in_object w offset value (Some object) is wanted = ap (found_cell w) is ∙ wanted_found w value wanted

pub loaded_there : (w : Want) (number offset : ℕ) (value : Scalar) (o : Objects) → cell_of number offset o ≡ Some value → is_wanted w value ≡ true →
    loaded_value w (Place number offset) o ≡ Ok value
unfolding loaded_value
loaded_there w number offset value o is wanted = in_object w offset value (get o.live number) is wanted

pub cell_there : (number offset : ℕ) (value : Scalar) (o : Objects) (object : Object) → get o.live number ≡ Some object →
    slice_get object.cells offset ≡ Some value → cell_of number offset o ≡ Some value
cell_there number offset value o object there is = ap (option_and_then (λ p. slice_get p.cells offset)) there ∙ is

within : (a b : ℕ) → a ≤ b → int_le (pos a) (pos b) ≡ true
within a b upto = grind (arith, nat_tests)

moved_within : (number to : ℕ) (object : Object) → to ≤ length object.cells → moved_in number (pos to) object ≡ Ok (Place number to)
moved_within number to object upto = rw (within 0 to (omega arith), within to (length object.cells) upto) refl

pub moved_there : (number offset to : ℕ) (cells : ℤ) (o : Objects) (object : Object) → get o.live number ≡ Some object → pos to ≡ pos offset +ℤ cells →
    to ≤ length object.cells → moved_pointer (Place number offset) cells o ≡ Ok (Place number to)
unfolding moved_pointer
moved_there number offset to cells o object there is upto =
    ap (λ found. live_or found >>= λ p. moved_in number (pos offset +ℤ cells) p) there
    ∙ ap (λ z. moved_in number z object) (sym is)
    ∙ moved_within number to object upto
