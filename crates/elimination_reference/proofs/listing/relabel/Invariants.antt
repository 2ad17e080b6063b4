use Rattle.std.proofs.Common.{◌≡◌, ◌++◌, take, drop}
use Rattle.std.specs.Prelude.{map}
use Rattle.elimination_reference.specs.Relabelling.{relabelled_run}
use Rattle.elimination_reference.proofs.listing.relabel.Given as goal

abbrev pub invariant-loop-run : goal.invariant-loop-run
invariant-loop-run l = l.runs ≡ map (relabelled_run l.branches l.leader) (take l.run-index l.initial.runs) ++ drop l.run-index l.initial.runs
