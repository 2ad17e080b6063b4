-- The arms of `? :`.
use Rattle.std.specs.Prelude.{ℕ, Option}
use Rattle.c_syntax.specs.ExprTree.{ExprTree}
use Rattle.c_meaning.specs.declared.value_type.ValueType.{ValueType}
use Rattle.c_meaning.specs.Words.{is_null_as, Facts, Sites, type_of}
use Rattle.lower_relation.specs.Expressions.{emitted_expression}
use Rattle.lower_relation.specs.Values.{ArmEffect, ArmValue}
use Rattle.lower_nodes.specs.Made.{GraphPath}

-- an arm as a value of the type of the whole, and where nothing takes that
abbrev pub arm_value_part : Facts → Sites → Option ValueType → ExprTree → GraphPath ℕ
arm_value_part facts sites want x G = ArmValue G (is_null_as want x) (type_of facts x) want (emitted_expression G facts sites x)

abbrev pub arm_effect_part : Facts → Sites → Option ValueType → ExprTree → GraphPath ℕ
arm_effect_part facts sites want x G = ArmEffect G (is_null_as want x) (type_of facts x) want (emitted_expression G facts sites x)
