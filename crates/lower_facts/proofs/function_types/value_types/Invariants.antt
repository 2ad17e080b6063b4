use Rattle.std.proofs.Common.{◌≡◌, take}
use Rattle.std.specs.Prelude.{map}
use Rattle.c_meaning.specs.Known.{computed_type}
use Rattle.lower_facts.proofs.function_types.value_types.Given as goal

abbrev pub invariant-loop-ctype : goal.invariant-loop-ctype
invariant-loop-ctype l = l.values.items ≡ map (computed_type l.structs) (take l.ctype-index l.types)
