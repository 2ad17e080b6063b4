use Rattle.std.proofs.Common.{◌≡◌}
use Rattle.lower_globals.specs.Zeros.{cells_repeated}
use Rattle.lower_globals.proofs.zeros.repeated.Given as goal

abbrev pub invariant-loop : goal.invariant-loop
invariant-loop l = l.cells.items ≡ cells_repeated l.counter l.element
