use Rattle.std.proofs.Common.{arith}
use Rattle.elimination.specs.Slots.{change_of}
use Rattle.elimination_tallies.proofs.EntryChanges.{entries-allowed, entries-made}
use Rattle.elimination.proofs.books.take_entries.Goals as goal

pub take_entry-requires-clause-allows : goal.take_entry-requires-clause-allows
take_entry-requires-clause-allows g c =
    entries-allowed (change_of c.args.policy c.args.label) c.args.entries.now c.loop-entry.entry-index (record { site = 0; counts = record { first = 0; second = 0; third = 0 } }) c.args.tallies.now c.loop-entry.tallies c.loop-entry-test.true c.loop-entry.invariant.0 c.requires.allows

pub loop-entry-preserved : goal.loop-entry-preserved
loop-entry-preserved g c = (
  entries-made (change_of c.args.policy c.args.label) c.args.entries.now c.loop-entry.entry-index (record { site = 0; counts = record { first = 0; second = 0; third = 0 } }) c.args.tallies.now c.loop-entry.tallies c.take_entry.new.tallies c.loop-entry-test.true c.loop-entry.invariant.0 c.take_entry.ensures.changed,
  omega (arith, c.take_entry.ensures.step, c.loop-entry.invariant.1),
)
