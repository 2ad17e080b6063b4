use Rattle.elimination_tallies.proofs.EntryChanges.{entries-allowed, entries-made}
use Rattle.elimination_tallies.proofs.numbers.Numbers.change_all.Goals as goal

pub change-requires-clause-allows : goal.change-requires-clause-allows
change-requires-clause-allows c =
    entries-allowed c.args.change c.args.entries.now c.loop-entry.entry-index (record { site = 0; counts = record { first = 0; second = 0; third = 0 } }) c.args.self.now c.loop-entry.self c.loop-entry-test.true c.loop-entry.invariant c.requires.allows

pub loop-entry-preserved : goal.loop-entry-preserved
loop-entry-preserved c =
    entries-made c.args.change c.args.entries.now c.loop-entry.entry-index (record { site = 0; counts = record { first = 0; second = 0; third = 0 } }) c.args.self.now c.loop-entry.self c.change.new.self c.loop-entry-test.true c.loop-entry.invariant c.change.ensures
