use Rattle.std.proofs.Common.{◌≡◌, ◌+◌, ◌++◌, length}
use Rattle.std.specs.List.{filter_map, enumerate_from}
use Rattle.report_file.specs.Report.{entries_of, entry_of}
use Rattle.report_file.proofs.making.entries_of.Given as goal

-- the entries so far, and those of the sites that are left
abbrev pub invariant-loop-rest : goal.invariant-loop-rest
invariant-loop-rest l = record {
  entries : entries_of l.counts ≡ l.entries ++ filter_map entry_of (enumerate_from l.site l.rest);
  sites : l.site + length l.rest ≡ length l.counts;
}

abbrev pub decreases-loop-rest : goal.decreases-loop-rest
decreases-loop-rest l = length l.rest
