-- What a cell or an operand of a run can hold.
use Rattle.std.specs.Prelude.{Bool, true, nat_le, IsTrue}
use Rattle.cbi_base.specs.declared.scalar.Scalar.{Scalar}
use Rattle.cbi_base.specs.declared.scalar.Scalar.TheVariants.{Number, Place}
use Rattle.cbi_base.specs.Words.{lies_in, cell_limit}

abbrev pub is_held : Scalar → Bool
is_held (Number kind value) = lies_in kind value
is_held (Place object offset) = nat_le offset cell_limit
is_held value = true

-- a number lies in its kind's range, and an offset is at most the most cells that live
abbrev pub IsHeldScalar : Scalar → Type 0
IsHeldScalar value = IsTrue (is_held value)
