-- What a collection keeps, and which lists of reports it takes whole.
use Rattle.std.specs.Prelude.{◌≤◌, ◌+◌, List, ◌++◌, length}
use Rattle.cbi_base.specs.ProgramId.{IsId}
use Rattle.report_file.specs.declared.report.Report.{Report}
use Rattle.collector.specs.declared.answers.Merged.{Merged}
use Rattle.collector.specs.declared.collection.Bundle.{Bundle}
use Rattle.collector.specs.declared.collection.Held.{Held}
use Rattle.collector.specs.Collected.{IsOfCollection, mark_limit, marks_of, report_limit}
use Rattle.collector.specs.Merging.{AreReports}
use Rattle.collector.specs.Order.{AreAlike, IsOneOfReports, map_of}
use Rattle.collector.specs.Spelling.{RunsFrom}

abbrev pub AreOfCollection : Held → List Report → Type 0
AreOfCollection c reports = (r : Report) → IsOneOfReports r reports → IsOfCollection c r

-- the runs rise, each report can be spelled and is of the program and its sites, and the limits hold
pub record IsCollection (c : Held) : Type 0 where
  pub program : IsId c.program
  pub rising : RunsFrom 0 c.reports
  pub reports : AreReports c.reports
  pub ours : AreOfCollection c c.reports
  pub few : length c.reports ≤ report_limit
  pub few_marks : marks_of c.reports ≤ mark_limit

-- the collection with these reports, each under its run
abbrev pub with_reports : List Report → Held → Held
with_reports reports c = record c { reports = map_of (reports ++ c.reports) }

-- the reports are of the program and its sites, each run has one report, and the limits hold for all together
pub record MayTake (c : Held) (reports : List Report) : Type 0 where
  pub ours : AreOfCollection c reports
  pub alike : AreAlike (reports ++ c.reports)
  pub few : length (map_of (reports ++ c.reports)) ≤ report_limit
  pub few_marks : marks_of (map_of (reports ++ c.reports)) ≤ mark_limit

-- how many reports of both were new, and how many were held
abbrev pub counts_of_both : Merged → Merged → Merged
counts_of_both x y = record { added = x.added + y.added; repeated = x.repeated + y.repeated }

-- what a collection has in common with a bundle
abbrev pub bundle_of : Held → Bundle
bundle_of c = record { program = c.program; reports = c.reports }
