use Rattle.elimination_tallies.proofs.SiteChanges.{SoFar}
use Rattle.elimination_tallies.proofs.numbers.change_site.Given as goal

abbrev pub invariant-loop-number : goal.invariant-loop-number
invariant-loop-number l = SoFar l.change l.branch l.counts l.start l.number l.initial.tallies l.tallies
