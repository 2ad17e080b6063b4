use Rattle.std.proofs.Common.{◌-◌}
use Rattle.bug_rounds.proofs.Searching.{IsSearching}
use Rattle.bug_rounds.proofs.search.rounds.Given as goal

abbrev pub invariant-loop-round : goal.invariant-loop-round
invariant-loop-round g l = IsSearching l.table l.also l.most l.collection.reports (l.most - l._round) l.search
