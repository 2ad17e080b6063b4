use Rattle.lower_nodes.proofs.Numbers.{TurnedFrom}
use Rattle.lower_nodes.proofs.numbering.finish.Given as goal

abbrev pub invariant-loop-i : goal.invariant-loop-i
invariant-loop-i l = TurnedFrom l.i l.nodes l.finished.items
