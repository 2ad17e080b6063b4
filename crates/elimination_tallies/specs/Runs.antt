-- The reports of a collection behind a run, and what is known of its runs.
use Rattle.std.specs.Prelude.{ℕ, ◌<◌, Bool, nat_lt, List, length, filter, All, IsTrue}
use Rattle.report_file.specs.declared.report.Entry.{Entry}
use Rattle.report_file.specs.declared.report.Report.{Report}
use Rattle.report_file.specs.Report.{RiseFrom, is_positive}
use Rattle.elimination_tallies.specs.declared.labelled.LabelledRun.{LabelledRun}

-- the reports with a greater run
abbrev pub reports_after : ℕ → List Report → List Report
reports_after run reports = filter (λ (r : Report). nat_lt run r.run) reports

-- the entries rise, each is of one of these sites, and each has a positive counter
pub record AreEntriesOf (branches : List Bool) (entries : List Entry) : Type 0 where
  pub rising : RiseFrom 0 entries
  pub sites : All (λ (e : Entry). e.site < length branches) entries
  pub positive : All (λ (e : Entry). IsTrue (is_positive e.counts)) entries

abbrev pub AreRunsOf : List Bool → List LabelledRun → Type 0
AreRunsOf branches runs = All (λ (r : LabelledRun). AreEntriesOf branches r.entries) runs
