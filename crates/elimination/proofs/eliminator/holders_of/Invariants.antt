use Rattle.std.proofs.Common.{take}
use Rattle.elimination.specs.Slots.{AreHolders}
use Rattle.elimination.proofs.eliminator.holders_of.Given as goal

abbrev pub invariant-loop-place : goal.invariant-loop-place
invariant-loop-place l = AreHolders l.sites (take l.place l.slots) l.holders.items
