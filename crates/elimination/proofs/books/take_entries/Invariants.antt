use Rattle.std.proofs.Common.{◌≡◌, ◌+◌}
use Rattle.elimination.specs.Slots.{change_of}
use Rattle.elimination_tallies.proofs.EntryChanges.{MadeUpTo}
use Rattle.elimination.proofs.books.take_entries.Given as goal

abbrev pub invariant-loop-entry : goal.invariant-loop-entry
invariant-loop-entry g l = MadeUpTo (change_of l.policy l.label) l.entries l.entry-index l.initial.tallies l.tallies × (l.steps ≡ l.initial.steps + l.entry-index)
