-- How two words of 64 bits hold a scalar: the first says what it is, and for a place the offset; the second has a number's
-- value, or the number of a place's object, from which 2^63 is taken where it reaches that.
use Rattle.std.specs.Prelude.{◌≡◌, ℕ, ◌+◌, ◌-◌, ◌*◌, ◌==◌, nat_lt, if◌then◌else◌, pos}
use Rattle.cbi_base.specs.declared.scalar.Kind.{Kind}
use Rattle.cbi_base.specs.declared.scalar.Kind.TheVariants.{Char, Int, Unsigned}
use Rattle.cbi_base.specs.declared.scalar.Scalar.{Scalar}
use Rattle.cbi_base.specs.declared.scalar.Scalar.TheVariants.{Number, Place, Null, Undefined}
use Rattle.c_store.specs.Held.{IsHeldScalar}
use Rattle.c_store.specs.Place.{half_of_object_numbers, place_from_bits}
use Rattle.c_store.specs.declared.word.Word.TheInside.{Inside}

abbrev pub tag_of : Kind → ℕ
tag_of Char = 2
tag_of Int = 3
tag_of Unsigned = 4

abbrev pub scalar_of : Inside → Scalar
scalar_of w =
    if w.tag == 0 then Undefined
    else if w.tag == 1 then Null
    else if w.tag == 2 then Number Char w.bits
    else if w.tag == 3 then Number Int w.bits
    else if w.tag == 4 then Number Unsigned w.bits
    else place_from_bits w.tag w.bits

abbrev pub pair_of_place : ℕ → ℕ → Inside
pair_of_place object offset =
    if nat_lt object half_of_object_numbers
    then record { tag = 5 + 256 * offset; bits = pos object }
    else record { tag = 6 + 256 * offset; bits = pos (object - half_of_object_numbers) }

abbrev pub pair_of : Scalar → Inside
pair_of Undefined = record { tag = 0; bits = pos 0 }
pair_of Null = record { tag = 1; bits = pos 0 }
pair_of (Number kind value) = record { tag = tag_of kind; bits = value }
pair_of (Place object offset) = pair_of_place object offset

-- a scalar has one pair, and it is one that a run can hold
pub record IsPair (w : Inside) : Type 0 where
  pub same : pair_of (scalar_of w) ≡ w
  pub held : IsHeldScalar (scalar_of w)
