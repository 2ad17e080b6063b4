-- The lines of one run within a text: its line, in the second version, and behind it the longest list of its sites' lines.
use Rattle.std.specs.Prelude.{◌≡◌, ◌+◌, ◌≤◌, ℕ, List, ◌++◌, length, map, drop}
use Rattle.cbi_base.specs.Text.{line_with_newline, line_of_fields, text_of}
use Rattle.cbi_base.specs.declared.identity.ProgramId.{ProgramId}
use Rattle.report_file.specs.declared.draft.Version.TheVariants.{Second}
use Rattle.report_file.specs.declared.report.Entry.{Entry}
use Rattle.report_file.specs.declared.report.Report.{Report}
use Rattle.report_file.specs.declared.run_line.RunLine.{RunLine}
use Rattle.report_file.specs.Grammar.{IsNextEntry}
use Rattle.report_file.specs.Report.{AreEntries, IsReport, RiseFrom}
use Rattle.report_file.specs.RunLine.{IsRunLine, line_rows, run_line_fields}
use Rattle.report_file.specs.Spelling.{site_fields}
use Rattle.collector.specs.declared.run_text.RunText.{RunText}

-- the bytes begin with a run's line, and go on so
pub record RunStands (bytes : List ℕ) (value : RunLine) (rest : List ℕ) : Type 0 where
  pub is_line : IsRunLine Second value
  pub text_is : bytes ≡ line_with_newline (line_of_fields (run_line_fields Second value)) ++ rest

-- the bytes begin with the line of a site with this number or a greater one, and go on so
pub record SiteStands (bytes : List ℕ) (site : ℕ) (value : Entry) (rest : List ℕ) : Type 0 where
  pub is_next : IsNextEntry site value
  pub text_is : bytes ≡ line_with_newline (line_of_fields (site_fields value)) ++ rest

abbrev pub sites_text : List Entry → List ℕ
sites_text entries = text_of (map line_of_fields (map site_fields entries))

-- the bytes begin with the lines of these sites, whose numbers rise
pub record SitesStand (bytes : List ℕ) (entries : List Entry) : Type 0 where
  pub are_entries : AreEntries entries
  pub rising : RiseFrom 0 entries
  pub rest : List ℕ
  pub text_is : bytes ≡ sites_text entries ++ rest

abbrev pub lines_text : Report → List ℕ
lines_text r = text_of (map line_of_fields (line_rows r))

-- the lines of this report of the program stand from the one place to the other
pub record ReportStands (program : ProgramId) (bytes : List ℕ) (from : ℕ) (text : RunText) : Type 0 where
  pub is_report : IsReport text.report
  pub program_is : text.report.program ≡ program
  pub text_is : drop from bytes ≡ lines_text text.report ++ drop text.end bytes
  pub end_is : text.end ≡ from + length (lines_text text.report)

-- and no longer list of sites' lines stands there
pub record IsRunAt (program : ProgramId) (bytes : List ℕ) (from : ℕ) (text : RunText) : Type 0 where
  pub stands : ReportStands program bytes from text
  pub longest : (other : RunText) → ReportStands program bytes from other → length other.report.entries ≤ length text.report.entries
