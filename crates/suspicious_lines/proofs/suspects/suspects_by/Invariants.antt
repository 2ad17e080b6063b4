use Rattle.std.proofs.Common.{◌≡◌, ◌+◌, ◌++◌, drop}
use Rattle.elimination_tallies.specs.Scanning.{tally_at}
use Rattle.flow.specs.Predicates.{predicate_count}
use Rattle.suspicious_lines.specs.Suspects.{suspects_from}
use Rattle.suspicious_lines.proofs.suspects.suspects_by.Given as goal

-- with those of the sites that are left they are all
abbrev pub invariant-loop-site : goal.invariant-loop-site
invariant-loop-site l = record {
  all : l.out.items ++ suspects_from (tally_at l.numbers.tallies) l.first (drop l.site-index l.site-items) ≡ suspects_from (tally_at l.numbers.tallies) 0 l.site-items;
  count : l.first + predicate_count (drop l.site-index l.site-items) ≡ predicate_count l.site-items;
}
