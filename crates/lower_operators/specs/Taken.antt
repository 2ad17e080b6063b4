-- The types that arguments become.
use Rattle.std.specs.Prelude.{ℕ, List, ◌∷◌, Option, Some, None}
use Rattle.c_meaning.specs.declared.value_type.ValueType.{ValueType}
use Rattle.c_meaning.specs.Calls.{type_taken}
use Rattle.lower_operators.specs.declared.printing.Wanted.{Wanted}
use Rattle.lower_operators.specs.declared.printing.Wanted.TheVariants as wanted
use Rattle.lower_operators.specs.Passing.{format_types, type_if_known}

abbrev pub wanted_types : Wanted → List ValueType
wanted_types (wanted.Params types) = types.now
wanted_types (wanted.One of) = type_if_known of
wanted_types (wanted.Format bytes) = format_types bytes.now

-- the type that a conversion with this letter takes, before those of the rest; another byte takes nothing
abbrev pub types_before : Option ℕ → List ValueType → List ValueType
types_before None rest = rest
types_before (Some letter) rest = type_taken letter ∷ rest
