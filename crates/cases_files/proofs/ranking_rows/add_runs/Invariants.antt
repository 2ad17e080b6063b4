use Rattle.std.proofs.Common.{◌≡◌}
use Rattle.cases_files.proofs.ranking_rows.add_runs.Given as goal

abbrev pub invariant-loop-place : goal.invariant-loop-place
invariant-loop-place l = l.collection.branches ≡ l.initial.collection.branches
