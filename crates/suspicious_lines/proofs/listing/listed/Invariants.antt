use Rattle.std.proofs.Common.{◌-◌}
use Rattle.std.specs.Prelude.{All}
use Rattle.association.specs.Order.{IsOfRuns}
use Rattle.suspicious_lines.proofs.ListLemmas.{IsListing}
use Rattle.suspicious_lines.proofs.listing.listed.Given as goal

abbrev pub invariant-loop-place : goal.invariant-loop-place
invariant-loop-place l = record {
  listing : IsListing l.totals.failing l.totals.successful l.apart l.most l.initial.suspects.items (l.most - l._place) l.suspects.items l.rows.items;
  runs : All (IsOfRuns l.totals.failing l.totals.successful) l.suspects.items;
}
