-- What becomes of the value of an expression.
use Rattle.std.specs.Prelude.{ℕ, Bool, true, false, Option, Some}
use Rattle.flow.specs.declared.node.Node.TheVariants as node
use Rattle.c_meaning.specs.declared.value_type.ValueType.{ValueType}
use Rattle.c_meaning.specs.declared.value_type.ValueType.TheVariants as type
use Rattle.c_meaning.specs.Expressions.{is_struct_value}
use Rattle.lower_relation.specs.Paths.{Graph, Path, ◌then◌, Does, Emitted, ForkTo, Nothing, Ways}
use Rattle.lower_relation.specs.Operators.{LoadThrough, PointerPlace}
use Rattle.lower_relation.specs.Values.{DiscardedPlace, LoadAt}
use Rattle.lower_nodes.specs.declared.purpose.Purpose.{Purpose}
use Rattle.lower_nodes.specs.declared.purpose.Purpose.TheVariants as purpose

-- whether one load of a pointer looks at it as well
abbrev pub is_single : Option ValueType → Bool
is_single (Some (type.Number kind)) = true
is_single (Some (type.Pointer size)) = true
is_single of = false

-- the two ways of a condition
abbrev pub condition_ways : ℕ → ℕ → Ways
condition_ways yes_at no_at = record { yes_to = yes_at; no_to = no_at }

-- the path of an expression for what its value is wanted for
abbrev pub Serves : Emitted → Path Purpose
Serves m i (purpose.Value next) = m.value i next
Serves m i (purpose.Effect next) = m.effect i next
Serves m i (purpose.Truth yes_at no_at) = m.truth i (condition_ways yes_at no_at)

module _ (G : Graph) where
  -- what becomes of a value on top
  abbrev pub PurposeTakes : Path Purpose
  PurposeTakes i (purpose.Value next) = Nothing i next
  PurposeTakes i (purpose.Effect next) = Does G (node.Drop 0) i next
  PurposeTakes i (purpose.Truth yes_at no_at) = ForkTo G i (condition_ways yes_at no_at)

  -- of the value of a place of the type
  abbrev pub TakesPlace : Option ValueType → Path Purpose
  TakesPlace of i (purpose.Value next) = LoadAt G of i next
  TakesPlace of i (purpose.Effect next) = DiscardedPlace G (is_struct_value of) of i next
  TakesPlace of i (purpose.Truth yes_at no_at) = (LoadAt G of then ForkTo G) i (condition_ways yes_at no_at)

  -- of the value at a pointer to the type
  abbrev pub TakesThrough : Option ValueType → Path Purpose
  TakesThrough of i (purpose.Value next) = LoadThrough G of i next
  TakesThrough of i (purpose.Effect next) = (PointerPlace G then DiscardedPlace G (is_struct_value of) of) i next
  TakesThrough of i (purpose.Truth yes_at no_at) = (LoadThrough G of then ForkTo G) i (condition_ways yes_at no_at)
