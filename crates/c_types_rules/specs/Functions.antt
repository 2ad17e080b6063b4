-- The types of functions.
use Rattle.std.specs.Prelude.{Bool, ◌&&◌, if◌then◌else◌, List, Ok, Err}
use Rattle.c_types_rules.specs.declared.function.FunctionType.{FunctionType}
use Rattle.c_types_rules.specs.declared.operand.Operand.{Operand}
use Rattle.c_types_rules.specs.declared.fault.FaultKind.TheVariants as fault
use Rattle.c_types_rules.specs.TypeTree.{same_type, same_types}
use Rattle.c_types_rules.specs.Conversions.{value_of}
use Rattle.c_types_rules.specs.Faults.{OperandOrFault}
use Rattle.c_types_rules.specs.Assigning.{fits_parameters}

abbrev pub same_function : FunctionType → FunctionType → Bool
same_function f g = same_type f.gives g.gives && same_types f.params g.params

-- a call of a function of this type (C99 6.5.2.2)
abbrev pub typed_call : FunctionType → List Operand → OperandOrFault
typed_call f arguments = if fits_parameters f.params arguments then Ok (value_of f.gives) else Err fault.Arguments
