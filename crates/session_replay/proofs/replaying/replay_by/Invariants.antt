use Rattle.std.specs.Prelude.{reverse}
use Rattle.std.proofs.Common.{length}
use Rattle.session_replay.proofs.ReplayLemmas.{Replaying}
use Rattle.session_replay.proofs.replaying.replay_by.Given as goal

abbrev pub invariant-loop-edit : goal.invariant-loop-edit
invariant-loop-edit l = Replaying l.initial.session l.table (reverse l.initial.rest.items) l.session (reverse l.rest.items) l.text.items

abbrev pub decreases-loop-edit : goal.decreases-loop-edit
decreases-loop-edit l = length l.rest.items
