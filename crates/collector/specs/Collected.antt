-- A collection is a finite map from runs to reports: the list of the reports by rising run.
use Rattle.std.specs.Prelude.{◌≡◌, ◌≢◌, ◌+◌, ◌<◌, ◌≤◌, ℕ, ◌==◌, nat_lt, if◌then◌else◌, List, [], ◌∷◌, length, Option, None, Some, Result, Ok, Err}
use Rattle.std.specs.List.{find}
use Rattle.report_file.specs.declared.label.Label.{Label}
use Rattle.report_file.specs.declared.report.Report.{Report}
use Rattle.collector.specs.declared.answers.Added.{Added}
use Rattle.collector.specs.declared.answers.Added.TheVariants.{New, Repeated}
use Rattle.collector.specs.declared.answers.AddFault.{AddFault}
use Rattle.collector.specs.declared.answers.AddFault.TheVariants.{Foreign, NoSite, Conflict, TooManyReports, TooManyMarks, Memory}
use Rattle.collector.specs.declared.collection.Held.{Held}
use Rattle.collector.specs.Sites.{first_bad}

-- the limits of a collection
abbrev pub report_limit : ℕ
report_limit = 100000

abbrev pub mark_limit : ℕ
mark_limit = 16777216

-- the report of a run
abbrev pub report_at : ℕ → List Report → Option Report
report_at run reports = find (λ r. run == r.run) reports

-- the reports with one more, in its place
abbrev pub with_report : Report → List Report → List Report
with_report r [] = r ∷ []
with_report r (x ∷ more) = if nat_lt r.run x.run then r ∷ x ∷ more else (if r.run == x.run then r ∷ more else x ∷ with_report r more)

-- the reports without that of a run
abbrev pub without_report : ℕ → List Report → List Report
without_report run [] = []
without_report run (x ∷ more) = if run == x.run then more else x ∷ without_report run more

-- the reports with another label for that of a run
abbrev pub report_relabelled : ℕ → Label → List Report → List Report
report_relabelled run label [] = []
report_relabelled run label (x ∷ more) = if run == x.run then record x { label = label } ∷ more else x ∷ report_relabelled run label more

-- the report with the least run above another one, where the runs rise
abbrev pub next_after : ℕ → List Report → Option Report
next_after run reports = find (λ r. nat_lt run r.run) reports

-- how many entries all reports have
abbrev pub marks_of : List Report → ℕ
marks_of [] = 0
marks_of (r ∷ more) = length r.entries + marks_of more

-- the report is of this program, and of its sites
pub record IsOfCollection (c : Held) (r : Report) : Type 0 where
  pub program : r.program ≡ c.program
  pub sites : first_bad c.branches r.entries ≡ None

-- What an addition answers. A report of another program is refused first, then one with a site that isn't there, then one whose run is held with
-- another report, and last one that passes a limit. A refused one changes nothing.
abbrev pub Adds : Held → Report → Result Added AddFault → Held → Type 0
Adds c r (Ok New) after =
    IsOfCollection c r × (report_at r.run c.reports ≡ None) × (length c.reports < report_limit) × (marks_of c.reports + length r.entries ≤ mark_limit)
    × (after ≡ record c { reports = with_report r c.reports })
Adds c r (Ok Repeated) after = IsOfCollection c r × (report_at r.run c.reports ≡ Some r) × (after ≡ c)
Adds c r (Err (Foreign ours theirs)) after = (ours ≡ c.program) × (theirs ≡ r.program) × (ours ≢ theirs) × (after ≡ c)
Adds c r (Err (NoSite run site)) after = (r.program ≡ c.program) × (run ≡ r.run) × (first_bad c.branches r.entries ≡ Some site) × (after ≡ c)
Adds c r (Err (Conflict run)) after = IsOfCollection c r × (run ≡ r.run) × ((held : Report) × (report_at run c.reports ≡ Some held) × (held ≢ r)) × (after ≡ c)
Adds c r (Err (TooManyReports run)) after =
    IsOfCollection c r × (run ≡ r.run) × (report_at run c.reports ≡ None) × (report_limit ≤ length c.reports) × (after ≡ c)
Adds c r (Err (TooManyMarks run)) after =
    IsOfCollection c r × (run ≡ r.run) × (report_at run c.reports ≡ None) × (length c.reports < report_limit)
    × (mark_limit < marks_of c.reports + length r.entries) × (after ≡ c)
Adds c r (Err Memory) after =
    IsOfCollection c r × (report_at r.run c.reports ≡ None) × (length c.reports < report_limit) × (marks_of c.reports + length r.entries ≤ mark_limit)
    × (after ≡ c)
