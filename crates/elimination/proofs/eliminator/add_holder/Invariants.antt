use Rattle.std.proofs.Common.{take}
use Rattle.elimination.specs.Slots.{IsHeldToo}
use Rattle.elimination.proofs.eliminator.add_holder.Given as goal

abbrev pub invariant-loop-entry : goal.invariant-loop-entry
invariant-loop-entry l = IsHeldToo l.place (take l.entry-index l.entries) l.initial.holders l.holders
