use Rattle.std.proofs.Common.{◌≡◌, ◌++◌, map}
use Rattle.std.specs.Prelude.{filter}
use Rattle.std.specs.List.{range_with_len}
use Rattle.elimination_tallies.specs.Scanning.{tally_at}
use Rattle.suspicious_lines.specs.Suspects.{is_true_in_failing, suspect_at}
use Rattle.suspicious_lines.proofs.suspects.push_suspects.Given as goal

abbrev pub invariant-loop-number : goal.invariant-loop-number
invariant-loop-number l = l.out.items ≡ l.initial.out.items ++ filter is_true_in_failing (map (suspect_at (tally_at l.numbers.tallies) l.site) (range_with_len l.first l.number))
