use Rattle.std.proofs.Common.{◌≤◌, ◌-◌, length}
use Rattle.elimination_tallies.specs.Predicates.{first_predicate}
use Rattle.elimination_tallies.proofs.numbers.Numbers.site_of.Given as goal

abbrev pub invariant-loop-self : goal.invariant-loop-self
invariant-loop-self l = first_predicate l.self.branches l.site ≤ l.predicate

abbrev pub decreases-loop-self : goal.decreases-loop-self
decreases-loop-self l = length l.self.branches - l.site
