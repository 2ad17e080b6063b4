use Rattle.std.proofs.Common.{◌≡◌}
use Rattle.cases_files.proofs.session_rows.add_runs.Given as goal

abbrev pub invariant-loop-place : goal.invariant-loop-place
invariant-loop-place l = l.session.held.branches ≡ l.initial.session.held.branches
