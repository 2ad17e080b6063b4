-- Where a value of one type is used as one of another (C99 6.3).
use Rattle.std.specs.Prelude.{Bool, true, false, ◌&&◌, Option, Some, Result, Ok, Err}
use Rattle.std.specs.Ordering.{int_eq}
use Rattle.std.specs.Prelude.{pos}
use Rattle.cbi_base.specs.declared.scalar.Kind.{Kind}
use Rattle.cbi_base.specs.declared.scalar.Kind.TheVariants.{Char, Int, Unsigned}
use Rattle.cbi_base.specs.declared.scalar.Scalar.{Scalar}
use Rattle.cbi_base.specs.declared.scalar.Scalar.TheVariants.{Null, Undefined}
use Rattle.cbi_base.specs.declared.scalar.Want.TheVariants as want
use Rattle.cbi_base.specs.declared.trap.Trap.{Trap}
use Rattle.cbi_base.specs.declared.trap.Trap.TheVariants as trap
use Rattle.cbi_base.specs.Words.{loaded_value, converted_number}
use Rattle.c_syntax.specs.ExprTree as e
use Rattle.c_syntax.specs.ExprTree.{ExprTree}
use Rattle.c_meaning.specs.declared.conversion.Conversion.{Conversion}
use Rattle.c_meaning.specs.declared.conversion.Conversion.TheVariants.{Keep, To, Misfit}
use Rattle.c_meaning.specs.declared.value_type.ValueType.{ValueType}
use Rattle.c_meaning.specs.declared.value_type.ValueType.TheVariants as type
use Rattle.c_meaning.specs.World.{World, Out, Go, answer_or_trap, stuck_run}

-- An array is a pointer to its first element, where its value is used (C99 6.3.2.1p3).
abbrev pub as_used : Option ValueType → Option ValueType
as_used (Some (type.Array size)) = Some (type.Pointer size)
as_used of = of

abbrev pub is_pointer_value : Option ValueType → Bool
is_pointer_value (Some (type.Pointer size)) = true
is_pointer_value (Some (type.Array size)) = true
is_pointer_value of = false

-- NULL, and a constant zero that isn't within parentheses (C99 6.3.2.3p3)
abbrev pub is_null_constant : ExprTree → Bool
is_null_constant (e.Null token) = true
is_null_constant (e.Constant token kind value) = int_eq value (pos 0)
is_null_constant x = false

-- a null constant, where a pointer is wanted
abbrev pub is_null_as : Option ValueType → ExprTree → Bool
is_null_as wanted x = is_pointer_value wanted && is_null_constant x

-- a number of one kind where one of another kind is wanted: no conversion is needed between equal kinds
abbrev pub kind_conversion : Kind → Kind → Conversion
kind_conversion Char Char = Keep
kind_conversion Int Int = Keep
kind_conversion Unsigned Unsigned = Keep
kind_conversion have wanted = To wanted

abbrev pub fitting_conversion : Option ValueType → Option ValueType → Conversion
fitting_conversion (Some (type.Number have)) (Some (type.Number wanted)) = kind_conversion have wanted
fitting_conversion (Some (type.Pointer size)) (Some (type.Pointer other)) = Keep
fitting_conversion have wanted = Misfit

-- a value of one type where one of another type is wanted, as by assignment (C99 6.5.16.1)
abbrev pub conversion : Option ValueType → Option ValueType → Conversion
conversion have wanted = fitting_conversion (as_used have) wanted

abbrev pub conversion_result : Conversion → Scalar → Result Scalar Trap
conversion_result Keep v = Ok v
conversion_result (To kind) v = converted_number kind v
conversion_result Misfit v = Err trap.Internal

-- Where no conversion is needed, an undefined value is met by what uses the value.
abbrev pub as_wanted : Conversion → Scalar → World → Out Scalar
as_wanted c v w = answer_or_trap (conversion_result c v) w

abbrev pub defined_scalar : Scalar → Result Scalar Trap
defined_scalar Undefined = Err trap.Undefined
defined_scalar v = Ok v

-- A value is handed over as one of the type: an argument, an operand of a cast or of a unary `+`. An undefined one is met at once.
abbrev pub handed_scalar : Option ValueType → Scalar → World → Out Scalar
handed_scalar (Some (type.Number kind)) v w = answer_or_trap (converted_number kind v) w
handed_scalar (Some (type.Pointer size)) v w = answer_or_trap (defined_scalar v) w
handed_scalar other v w = stuck_run w

-- the value of a place of this type (C99 6.3.2.1p2)
abbrev pub load_at : Option ValueType → Scalar → World → Out Scalar
load_at (Some (type.Number kind)) p w = answer_or_trap (loaded_value (want.Number kind) p w.objects) w
load_at (Some (type.Pointer size)) p w = answer_or_trap (loaded_value want.Pointer p w.objects) w
load_at (Some (type.Array size)) p w = Go p w
load_at other p w = stuck_run w
