-- Whether there is a value, and whether it is taken.
use Rattle.std.specs.Prelude.{Bool, true, false, Option, Some}
use Rattle.c_meaning.specs.declared.value_type.ValueType.{ValueType}
use Rattle.c_meaning.specs.declared.value_type.ValueType.TheVariants as type
use Rattle.lower_nodes.specs.declared.purpose.Purpose.{Purpose}
use Rattle.lower_nodes.specs.declared.purpose.Purpose.TheVariants as purpose

-- whether the type is `void`
abbrev pub is_void_value : Option ValueType → Bool
is_void_value (Some type.Void) = true
is_void_value of = false

-- whether something takes the value, or its truth
abbrev pub is_value_taken : Purpose → Bool
is_value_taken (purpose.Effect next) = false
is_value_taken p = true
