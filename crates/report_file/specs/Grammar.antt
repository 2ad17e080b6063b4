-- The grammar of reports, line by line, both versions as one: which line may come next, and what is due after it.
use Rattle.std.specs.Prelude.{◌≡◌, ◌⊎◌, ℕ, ◌+◌, ◌≤◌, true, List, [], ◌∷◌, ◌++◌, codes, replicate}
use Rattle.cbi_base.specs.Words.{IsId, line_of_fields}
use Rattle.cbi_base.specs.declared.identity.ProgramId.{ProgramId}
use Rattle.cbi_base.specs.declared.outcome.Outcome.{Outcome}
use Rattle.cbi_base.specs.declared.outcome.Outcome.TheVariants.{CutTurns}
use Rattle.cbi_base.specs.declared.outcome.Work.{Work}
use Rattle.report_file.specs.declared.label.Label.{Label}
use Rattle.report_file.specs.declared.label.Label.TheVariants.{Uncounted}
use Rattle.report_file.specs.declared.draft.Version.{Version}
use Rattle.report_file.specs.declared.draft.Version.TheVariants as version
use Rattle.report_file.specs.declared.draft.Due.{Due}
use Rattle.report_file.specs.declared.draft.Due.TheVariants as due
use Rattle.report_file.specs.declared.draft.Draft.{Draft}
use Rattle.report_file.specs.declared.report.Entry.{Entry}
use Rattle.report_file.specs.declared.report.Report.{Report}
use Rattle.report_file.specs.Label.{label_of}
use Rattle.report_file.specs.Report.{IsEntry, IsOutcome, IsRun, IsWork}
use Rattle.report_file.specs.Spelling.{label_fields, outcome_line, program_fields, run_fields, site_fields, title_fields, work_fields}

-- a line with one value, which the draft then has
pub record Sets {A : Type 0} (spell : A → List (List ℕ)) (Good : A → Type 0) (next : A → Draft) (line : List ℕ) (after : Draft) : Type 0 where
  pub value : A
  pub is_good : Good value
  pub line_is : line ≡ line_of_fields (spell value)
  pub after_is : after ≡ next value

-- nothing is read yet
abbrev pub empty_report : Report
empty_report = record {
  program = record { bytes = replicate 32 0 };
  run = 0;
  outcome = CutTurns;
  label = Uncounted;
  work = record { fast = 0; slow = 0; tests = 0 };
  entries = [];
}

abbrev pub report_start : Draft
report_start = record { due = due.Title; version = version.Second; site = 0; report = empty_report }

abbrev pub with_version : Draft → Version → Draft
with_version d version = record d { due = due.Program; version = version }

abbrev pub with_program : Draft → ProgramId → Draft
with_program d id = record d { due = due.Run; report = record d.report { program = id } }

abbrev pub with_run : Draft → ℕ → Draft
with_run d run = record d { due = due.Outcome; report = record d.report { run = run } }

-- the label is the outcome's, until a line says another one; the second version has that line
abbrev pub after_outcome : Version → Due
after_outcome version.First = due.Work
after_outcome version.Second = due.Label

abbrev pub with_outcome : Draft → Outcome → Draft
with_outcome d outcome = record d { due = after_outcome d.version; report = record d.report { outcome = outcome; label = label_of outcome true } }

abbrev pub with_label : Draft → Label → Draft
with_label d label = record d { due = due.Work; report = record d.report { label = label } }

abbrev pub with_work : Draft → Work → Draft
with_work d work = record d { due = due.Sites; report = record d.report { work = work } }

abbrev pub with_entry : Draft → Entry → Draft
with_entry d e = record d { site = e.site + 1; report = record d.report { entries = d.report.entries ++ e ∷ [] } }

-- the line of a site, which is greater than those before it
pub record IsNextEntry (site : ℕ) (e : Entry) : Type 0 where
  pub is_entry : IsEntry e
  pub rises : site ≤ e.site

abbrev pub SiteFollows : Draft → List ℕ → Draft → Type 0
SiteFollows d line after = Sets site_fields (IsNextEntry d.site) (with_entry d) line after

abbrev pub ReportEndFollows : Draft → List ℕ → Draft → Type 0
ReportEndFollows d line after = (line ≡ codes "end") × (after ≡ record d { due = due.Nothing })

-- the line that is due
abbrev pub ReportLineComes : Due → Draft → List ℕ → Draft → Type 0
ReportLineComes due.Title d line after = Sets title_fields (λ _. Unit {0}) (with_version d) line after
ReportLineComes due.Program d line after = Sets program_fields IsId (with_program d) line after
ReportLineComes due.Run d line after = Sets run_fields IsRun (with_run d) line after
ReportLineComes due.Outcome d line after = Sets outcome_line IsOutcome (with_outcome d) line after
ReportLineComes due.Label d line after = Sets label_fields (λ _. Unit {0}) (with_label d) line after
ReportLineComes due.Work d line after = Sets work_fields IsWork (with_work d) line after
ReportLineComes due.Sites d line after = SiteFollows d line after ⊎ ReportEndFollows d line after
ReportLineComes due.Nothing d line after = ⊥

abbrev pub ReportLineFollows : Draft → List ℕ → Draft → Type 0
ReportLineFollows d line after = ReportLineComes d.due d line after

-- the text may end where nothing is due
abbrev pub ReportEnds : Draft → Type 0
ReportEnds d = d.due ≡ due.Nothing
