-- What was gathered: the collection, and how many reports the files have.
use Rattle.std.specs.Prelude.{◌≡◌, List, length}
use Rattle.report_file.specs.declared.report.Report.{Report}
use Rattle.command_collect.specs.declared.gather.Gathered.{Gathered}
use Rattle.command_collect.specs.declared.reports.CollectTexts.{CollectTexts}
use Rattle.command_collect.specs.Collect.{IsGathered}

pub record HasGathered (texts : CollectTexts) (g : Gathered) : Type 0 where
  pub reports : List Report
  pub gathered : IsGathered texts g.collection reports
  pub count : g.reports ≡ length reports
