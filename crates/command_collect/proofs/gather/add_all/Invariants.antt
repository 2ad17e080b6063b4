use Rattle.std.specs.Prelude.{reverse}
use Rattle.std.proofs.Common.{length}
use Rattle.collector.specs.declared.answers.AddFault.{AddFault}
use Rattle.collector.specs.declared.collection.Held.{Held}
use Rattle.command_collect.specs.Collect.{AreBundles, MeetsFault, TakesAll}
use Rattle.command_collect.proofs.gather.add_all.Given as goal

-- what the bundles that are left come to, all come to
abbrev pub invariant-loop-bundle : goal.invariant-loop-bundle
invariant-loop-bundle l = record {
  taken : (after : Held) → TakesAll l.collection (reverse l.rest.items) after → TakesAll l.initial.collection (reverse l.initial.rest.items) after;
  stops : (fault : AddFault) → MeetsFault l.collection (reverse l.rest.items) fault → MeetsFault l.initial.collection (reverse l.initial.rest.items) fault;
  are : AreBundles (reverse l.rest.items);
}

abbrev pub decreases-loop-bundle : goal.decreases-loop-bundle
decreases-loop-bundle l = length l.rest.items
