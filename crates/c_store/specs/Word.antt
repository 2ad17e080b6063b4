-- What is asked of the scalar that a word holds, and of the cell at a place.
use Rattle.std.specs.Prelude.{ℕ, Bool, true, false, ℤ, Option, None, Some, slice_get}
use Rattle.std.specs.FinMap.{get}
use Rattle.std.specs.Option.{option_and_then}
use Rattle.cbi_base.specs.declared.scalar.Kind.TheVariants.{Int}
use Rattle.cbi_base.specs.Objects.{Objects}
use Rattle.cbi_base.specs.declared.scalar.Scalar.{Scalar}
use Rattle.cbi_base.specs.declared.scalar.Scalar.TheVariants.{Number, Undefined}

abbrev pub is_undefined : Scalar → Bool
is_undefined Undefined = true
is_undefined value = false

-- the value of a number of kind `int`
abbrev pub int_of : Scalar → Option ℤ
int_of (Number Int value) = Some value
int_of value = None

-- the value of a number of any kind
abbrev pub value_of_number : Scalar → Option ℤ
value_of_number (Number kind value) = Some value
value_of_number value = None

-- the cell at a place
abbrev pub cell_of : ℕ → ℕ → Objects → Option Scalar
cell_of number offset o = option_and_then (λ object. slice_get object.cells offset) (get o.live number)
