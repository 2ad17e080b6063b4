use Rattle.std.proofs.Common.{◌≡◌, drop}
use Rattle.std.specs.List.{find}
use Rattle.bug_rounds.specs.Live.{is_own_number}
use Rattle.bug_rounds.proofs.live.first_own.Given as goal

abbrev pub invariant-loop-run : goal.invariant-loop-run
invariant-loop-run l =
    find (is_own_number l.collection.branches l.collection.reports l.leader) (drop l.run-index l.live) ≡ find (is_own_number l.collection.branches l.collection.reports l.leader) l.live
