-- The new value of a place whose old one stays.
use Rattle.std.specs.Prelude.{ℕ, Option}
use Rattle.flow.specs.declared.node.Node.TheVariants as node
use Rattle.c_meaning.specs.declared.operation.Operation.{Operation}
use Rattle.c_meaning.specs.declared.value_type.ValueType.{ValueType}
use Rattle.c_meaning.specs.Words.{conversion, Facts, Sites, type_given}
use Rattle.lower_relation.specs.Operators.{Assigned, Operates}
use Rattle.lower_relation.specs.Paths.{Graph, Path, ◌then◌, Does}
use Rattle.lower_relation.specs.Values.{Converts}

-- the result of an operation is converted, stored and dropped
abbrev pub StoresResult : Graph → Facts → Sites → ℕ → Option ValueType → Operation → Path ℕ
StoresResult G facts sites token of o =
    Operates G o then Converts G (conversion (type_given o of) of) then Assigned G facts sites token then Does G (node.Drop 0)
