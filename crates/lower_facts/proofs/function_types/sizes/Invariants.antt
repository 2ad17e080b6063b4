use Rattle.std.proofs.Common.{◌≡◌, take}
use Rattle.std.specs.Prelude.{map}
use Rattle.c_types_rules.specs.Sizes.{cells_of}
use Rattle.lower_facts.proofs.function_types.sizes.Given as goal

abbrev pub invariant-loop-ctype : goal.invariant-loop-ctype
invariant-loop-ctype l = l.sizes.items ≡ map (cells_of l.structs) (take l.ctype-index l.types)
