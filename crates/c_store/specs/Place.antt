-- The place that two words hold, where the first says that they hold one.
use Rattle.std.specs.Prelude.{ℕ, ◌+◌, ◌/◌, ◌%◌, ◌^◌, ◌==◌, if◌then◌else◌, ℤ, unsigned_abs}
use Rattle.cbi_base.specs.declared.scalar.Scalar.{Scalar}
use Rattle.cbi_base.specs.declared.scalar.Scalar.TheVariants.{Place}

abbrev pub half_of_object_numbers : ℕ
half_of_object_numbers = 2 ^ 63

abbrev pub place_from_bits : ℕ → ℤ → Scalar
place_from_bits tag bits =
    if tag % 256 == 5
    then Place (unsigned_abs bits) (tag / 256)
    else Place (half_of_object_numbers + unsigned_abs bits) (tag / 256)
