use Rattle.elimination_tallies.specs.Scanning.{tally_at}
use Rattle.elimination_tallies.proofs.ScanLemmas.{AreFractions}
use Rattle.elimination_tallies.proofs.ScanState.{BestSoFar}
use Rattle.elimination_tallies.proofs.scan.leader_in.Given as goal

abbrev pub invariant-loop-predicate : goal.invariant-loop-predicate
invariant-loop-predicate l = BestSoFar (tally_at l.numbers.tallies) l.predicate l.failing l.best × AreFractions (tally_at l.numbers.tallies) l.predicate l.failing
