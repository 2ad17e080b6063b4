use Rattle.suspicious_lines.proofs.Bests.{IsBestOfFirst}
use Rattle.suspicious_lines.proofs.listing.best_of.Given as goal

abbrev pub invariant-loop-next : goal.invariant-loop-next
invariant-loop-next l = IsBestOfFirst l.totals.failing l.totals.successful l.suspects l.next-index l.best
