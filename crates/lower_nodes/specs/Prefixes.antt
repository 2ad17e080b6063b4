-- Operators before an operand that is no place.
use Rattle.std.specs.Prelude.{ℕ, true, false, Option}
use Rattle.cbi_base.specs.declared.operators.Unary.TheVariants as unary
use Rattle.c_syntax.specs.declared.expr.PrefixOperator.{PrefixOperator}
use Rattle.c_syntax.specs.declared.expr.PrefixOperator.TheVariants as prefix
use Rattle.c_meaning.specs.declared.value_type.ValueType.{ValueType}
use Rattle.c_meaning.specs.Facts.{Facts, Sites}
use Rattle.lower_relation.specs.Operators.{OneOperand, Stepped}
use Rattle.lower_relation.specs.Paths.{Graph, Path, ◌then◌, Emitted, Stuck}
use Rattle.lower_relation.specs.Values.{HandedOverAs}

-- the value of an operator before an operand of the type `of`; a pointer's place, the turned truth and a size have their own paths
abbrev pub PrefixValue : Graph → Facts → Sites → ℕ → PrefixOperator → Option ValueType → Emitted → Path ℕ
PrefixValue G facts sites token prefix.Increment of m = m.place then Stepped G facts sites true token of
PrefixValue G facts sites token prefix.Decrement of m = m.place then Stepped G facts sites false token of
PrefixValue G facts sites token prefix.Address of m = m.place
PrefixValue G facts sites token prefix.Plus of m = m.value then HandedOverAs G (facts.type_at token)
PrefixValue G facts sites token prefix.Minus of m = m.value then OneOperand G of (facts.type_at token) unary.Neg
PrefixValue G facts sites token prefix.Complement of m = m.value then OneOperand G of (facts.type_at token) unary.Com
PrefixValue G facts sites token prefix.Not of m = Stuck G
PrefixValue G facts sites token prefix.Indirection of m = Stuck G
PrefixValue G facts sites token prefix.SizeOf of m = Stuck G
