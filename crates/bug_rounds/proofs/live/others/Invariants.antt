use Rattle.std.proofs.Common.{◌≡◌, take}
use Rattle.bug_rounds.specs.Live.{others_among}
use Rattle.bug_rounds.proofs.live.others.Given as goal

abbrev pub invariant-loop-run : goal.invariant-loop-run
invariant-loop-run l = l.left.items ≡ others_among l.collection.branches l.collection.reports l.leader (take l.run-index l.live)
