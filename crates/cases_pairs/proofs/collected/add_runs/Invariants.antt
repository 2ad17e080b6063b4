use Rattle.std.proofs.Common.{◌≡◌}
use Rattle.cases_pairs.proofs.collected.add_runs.Given as goal

abbrev pub invariant-loop-run : goal.invariant-loop-run
invariant-loop-run l = l.collection.branches ≡ l.initial.collection.branches
