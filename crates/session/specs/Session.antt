-- A session: what is held, and the policy of its rankings.
use Rattle.std.specs.Prelude.{◌≡◌, Bool, List}
use Rattle.cbi_base.specs.declared.policy.Policy.{Policy}
use Rattle.collector.specs.declared.collection.Held.{Held}
use Rattle.report_file.specs.declared.report.Report.{Report}
use Rattle.elimination_tallies.specs.Recount.{failing_runs, runs_of}
use Rattle.elimination_tallies.specs.Tallies.{AreRecounts}
use Rattle.session.specs.declared.kept.Kept.{Kept}

pub record SessionState : Type 0 where
  pub held : Held
  pub policy : Policy

-- the session with other reports
abbrev pub session_with_reports : SessionState → List Report → SessionState
session_with_reports s reports = record s { held = record s.held { reports = reports } }

-- what is kept of the runs of these reports
pub record AreKept (branches : List Bool) (reports : List Report) (kept : Kept) : Type 0 where
  pub recounts : AreRecounts branches (runs_of reports) kept.numbers
  pub failing : kept.failing ≡ failing_runs (runs_of reports)
