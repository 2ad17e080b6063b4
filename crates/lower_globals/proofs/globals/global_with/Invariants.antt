use Rattle.std.proofs.Common.{◌≡◌, take}
use Rattle.std.specs.Prelude.{map}
use Rattle.flow.specs.Statics.{cell_value}
use Rattle.lower_globals.proofs.globals.global_with.Given as goal

abbrev pub invariant-loop-value : goal.invariant-loop-value
invariant-loop-value l = map (cell_value l.globals) l.cells.items ≡ take l.value-index l.values
