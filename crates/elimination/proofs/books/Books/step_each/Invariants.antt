use Rattle.std.proofs.Common.{◌≡◌, ◌+◌, take, length}
use Rattle.std.specs.Prelude.{sum_by}
use Rattle.elimination.specs.Slots.{AreBooks, HaveStepped, slot_entries_taken}
use Rattle.elimination.proofs.books.Books.step_each.Given as goal

abbrev pub invariant-loop-place : goal.invariant-loop-place
invariant-loop-place g l =
    AreBooks l.self × HaveStepped l.policy l.leader (take l.place-index l.places) l.initial.self l.self × (length l.self.slots.items ≡ length l.initial.self.slots.items)
    × (l.steps + sum_by (slot_entries_taken l.initial.self.tallies.branches l.policy l.leader) l.self.slots.items ≡ l.initial.steps + sum_by (slot_entries_taken l.initial.self.tallies.branches l.policy l.leader) l.initial.self.slots.items)
