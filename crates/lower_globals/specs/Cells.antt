-- What an operation of a constant gives.
use Rattle.std.specs.Prelude.{List, ◌++◌, Option, Some, None, Result, Ok, Err}
use Rattle.std.specs.Option.{option_map}
use Rattle.cbi_base.specs.declared.operators.Unary.TheVariants.{Neg}
use Rattle.cbi_base.specs.declared.scalar.Scalar.{Scalar}
use Rattle.cbi_base.specs.declared.trap.Trap.{Trap}
use Rattle.cbi_base.specs.Scalars.{applied_to_one}
use Rattle.c_meaning.specs.declared.conversion.Conversion.{Conversion}
use Rattle.c_meaning.specs.Conversions.{conversion_result}

-- what an operation gives, if it gives anything
abbrev pub given_scalar : Result Scalar Trap → Option Scalar
given_scalar (Ok v) = Some v
given_scalar (Err t) = None

abbrev pub converted_if_some : Conversion → Option Scalar → Option Scalar
converted_if_some c None = None
converted_if_some c (Some v) = given_scalar (conversion_result c v)

abbrev pub negated_if_some : Option Scalar → Option Scalar
negated_if_some None = None
negated_if_some (Some v) = given_scalar (applied_to_one Neg v)

-- the negative of a value that is converted before and after
abbrev pub negated_constant : Conversion → Conversion → Scalar → Option Scalar
negated_constant first second v = converted_if_some second (negated_if_some (given_scalar (conversion_result first v)))

-- the cells behind others, where there are any
abbrev pub with_before : List Scalar → Option (List Scalar) → Option (List Scalar)
with_before before cells = option_map (λ more. before ++ more) cells
