use Rattle.std.proofs.Common.{◌≡◌, [], drop}
use Rattle.c_meaning.specs.Globals.{cells_of_structs}
use Rattle.lower_globals.proofs.zeros.struct_zeros.Given as goal

abbrev pub invariant-loop-known : goal.invariant-loop-known
invariant-loop-known l = cells_of_structs (drop l.known-index l.structs) l.all.items ≡ cells_of_structs l.structs []
