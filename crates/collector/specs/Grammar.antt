-- The grammar of collections, line by line, both versions as one: which line may come next, and what is due after it.
use Rattle.std.specs.Prelude.{◌≡◌, ◌⊎◌, ◌+◌, ◌<◌, ◌≤◌, ℕ, List, [], ◌∷◌, ◌++◌, length, None, Some, codes, replicate}
use Rattle.std.specs.Global.{Global}
use Rattle.std.specs.Option.{option_to_list}
use Rattle.cbi_base.specs.Words.{IsId, line_of_fields}
use Rattle.cbi_base.specs.declared.identity.ProgramId.{ProgramId}
use Rattle.report_file.specs.declared.draft.Version.{Version}
use Rattle.report_file.specs.declared.draft.Version.TheVariants as version
use Rattle.report_file.specs.declared.report.Entry.{Entry}
use Rattle.report_file.specs.declared.report.Report.{Report}
use Rattle.report_file.specs.declared.run_line.RunLine.{RunLine}
use Rattle.report_file.specs.Grammar.{IsNextEntry}
use Rattle.report_file.specs.RunLine.{IsRunLine, run_line_fields}
use Rattle.report_file.specs.Spelling.{program_fields, site_fields}
use Rattle.collector.specs.Collected.{mark_limit, report_limit}
use Rattle.collector.specs.Spelling.{bundle_title}
use Rattle.collector.specs.declared.draft.Draft.{Draft}
use Rattle.collector.specs.declared.draft.Due.{Due}
use Rattle.collector.specs.declared.draft.Due.TheVariants as due

-- nothing is read yet
abbrev pub bundle_start : Global → Draft
bundle_start alloc = record {
  alloc = alloc;
  due = due.Title;
  version = version.Second;
  program = record { bytes = replicate 32 0 };
  reports = [];
  current = None;
  run = 0;
  site = 0;
  marks = 0;
}

-- the reports so far, with the one that goes on
abbrev pub draft_reports : Draft → List Report
draft_reports d = d.reports ++ option_to_list d.current

abbrev pub current_report_closed : Draft → Draft
current_report_closed d = record d { reports = draft_reports d; current = None }

pub record TitleFollows (d : Draft) (line : List ℕ) (after : Draft) : Type 0 where
  pub value : Version
  pub line_is : line ≡ line_of_fields (bundle_title value)
  pub after_is : after ≡ record d { due = due.Program; version = value }

pub record ProgramFollows (d : Draft) (line : List ℕ) (after : Draft) : Type 0 where
  pub value : ProgramId
  pub is_id : IsId value
  pub line_is : line ≡ line_of_fields (program_fields value)
  pub after_is : after ≡ record d { due = due.Runs; program = value }

-- a report whose sites are still to come
abbrev pub report_without_sites : ProgramId → RunLine → Report
report_without_sites program x = record { program = program; run = x.run; outcome = x.outcome; label = x.label; work = x.work; entries = [] }

-- the line of a run, which is greater than those before it, where a report more may come
pub record RunFollows (d : Draft) (line : List ℕ) (after : Draft) : Type 0 where
  pub value : RunLine
  pub is_line : IsRunLine d.version value
  pub rises : d.run ≤ value.run
  pub room : length (draft_reports d) < report_limit
  pub line_is : line ≡ line_of_fields (run_line_fields d.version value)
  pub after_is : after ≡ record d { reports = draft_reports d; current = Some (report_without_sites d.program value); run = value.run + 1; site = 0 }

-- the line of a site of the run before it, where a site line more may come
pub record RunSiteFollows (d : Draft) (line : List ℕ) (after : Draft) : Type 0 where
  pub report : Report
  pub value : Entry
  pub is_current : d.current ≡ Some report
  pub is_next : IsNextEntry d.site value
  pub room : d.marks < mark_limit
  pub line_is : line ≡ line_of_fields (site_fields value)
  pub after_is : after ≡ record d { current = Some (record report { entries = report.entries ++ value ∷ [] }); site = value.site + 1; marks = d.marks + 1 }

pub record EndFollows (d : Draft) (line : List ℕ) (after : Draft) : Type 0 where
  pub line_is : line ≡ codes "end"
  pub after_is : after ≡ record (current_report_closed d) { due = due.Nothing }

-- the line that is due
abbrev pub BundleLineComes : Due → Draft → List ℕ → Draft → Type 0
BundleLineComes due.Title d line after = TitleFollows d line after
BundleLineComes due.Program d line after = ProgramFollows d line after
BundleLineComes due.Runs d line after = RunFollows d line after ⊎ (RunSiteFollows d line after ⊎ EndFollows d line after)
BundleLineComes due.Nothing d line after = ⊥

abbrev pub BundleLineFollows : Draft → List ℕ → Draft → Type 0
BundleLineFollows d line after = BundleLineComes d.due d line after

-- the text may end where nothing is due
abbrev pub BundleEnds : Draft → Type 0
BundleEnds d = d.due ≡ due.Nothing
