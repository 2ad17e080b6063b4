use Rattle.std.proofs.Common.{◌≡◌, ◌≤◌, ◌+◌, ℕ, length, get_or}
use Rattle.elimination_tallies.specs.Predicates.{first_predicate}
use Rattle.elimination_tallies.proofs.numbers.starts_of.Given as goal

abbrev pub invariant-loop-branch : goal.invariant-loop-branch
invariant-loop-branch l =
    (l.start ≡ first_predicate l.branches l.branch-index) × (length l.starts.items ≡ l.branch-index + 1)
    × ((site other : ℕ) → site ≤ l.branch-index → get_or l.starts.items site other ≡ first_predicate l.branches site)
