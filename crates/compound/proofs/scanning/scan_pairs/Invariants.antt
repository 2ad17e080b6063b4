use Rattle.std.proofs.Common.{◌≡◌, ◌+◌, take}
use Rattle.elimination_tallies.specs.Recount.{failing_runs, recount, runs_of}
use Rattle.compound_counts.specs.Truth.{pair_recount}
use Rattle.compound.specs.Listing.{candidate_predicates}
use Rattle.compound.specs.Pairs.{pairs_of}
use Rattle.compound.specs.Scanning.{IsScan}
use Rattle.compound.proofs.scanning.scan_pairs.Given as goal

abbrev pub invariant-loop-places : goal.invariant-loop-places
invariant-loop-places l = record {
  scan : IsScan (recount l.collection.branches (runs_of l.collection.reports)) (pair_recount l.collection.branches (runs_of l.collection.reports)) (failing_runs (runs_of l.collection.reports))
      (take l.places-index (pairs_of (candidate_predicates l.candidates))) l.scan;
  all : l.scan.counted + l.scan.skipped ≡ l.places-index;
}
