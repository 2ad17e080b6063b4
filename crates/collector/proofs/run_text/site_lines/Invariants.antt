use Rattle.std.proofs.Common.{◌≡◌, ◌++◌, length}
use Rattle.collector.specs.RunText.{sites_text}
use Rattle.report_file.specs.Report.{AreEntries, RiseFrom}
use Rattle.report_file.proofs.Whole.{end_of}
use Rattle.collector.proofs.run_text.site_lines.Given as goal

abbrev pub invariant-loop-entry : goal.invariant-loop-entry
invariant-loop-entry l = record {
  are : AreEntries l.entries;
  rising : RiseFrom 0 l.entries;
  site : l.site ≡ end_of 0 l.entries;
  text : l.bytes ≡ sites_text l.entries ++ l.rest;
}

abbrev pub decreases-loop-entry : goal.decreases-loop-entry
decreases-loop-entry l = length l.rest
