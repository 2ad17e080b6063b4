-- Offsets into an object that are moved.
use Rattle.std.specs.Prelude.{ℕ, ℤ, pos, ◌+ℤ◌, ◌&&◌, int_le, if◌then◌else◌, unsigned_abs, Result, Ok, Err}
use Rattle.cbi_base.specs.declared.scalar.Scalar.{Scalar}
use Rattle.cbi_base.specs.declared.scalar.Scalar.TheVariants.{Place}
use Rattle.cbi_base.specs.declared.trap.Trap.{Trap}
use Rattle.cbi_base.specs.declared.trap.Trap.TheVariants as trap

-- a place moved by so many cells in an object of this length, or to its end
abbrev pub moved_to : ℕ → ℕ → ℤ → ℕ → Result Scalar Trap
moved_to number offset cells length =
    let to = pos offset +ℤ cells in
    if int_le (pos 0) to && int_le to (pos length) then Ok (Place number (unsigned_abs to)) else Err trap.Bounds
