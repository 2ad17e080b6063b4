use Rattle.std.proofs.Common.{◌≡◌, ℕ, ◌+◌, ◌-◌, true, List, arith, refl, set, sym, subst, ap, ◌∙◌, Some, length}
use Rattle.std.specs.Prelude.{slice_get}
use Rattle.std.proofs.lemmas.Bool.{and_parts, cond-true}
use Rattle.std.proofs.lemmas.Option.{same_Some, slice_get_read}
use Rattle.cbi_base.specs.declared.policy.Policy.{Policy}
use Rattle.report_file.specs.declared.report.Entry.{Entry}
use Rattle.elimination.specs.declared.books.Books.{Books}
use Rattle.elimination.specs.declared.books.Slot.{Slot}
use Rattle.elimination.specs.Elimination.{is_taken}
use Rattle.elimination.specs.Slots.{change_of, slot_entries_taken, stepped_slot, taken_slot, takes_slot}
use Rattle.elimination_tallies.specs.Tallies.{AllowsEntries, ChangedByAll}
use Rattle.elimination.proofs.BooksLemmas.{IsTaken, step-allowed, step-books, step-fails, step-length}
use Rattle.elimination.proofs.books.Books.step.Goals as goal

taken-at : (b : Books) (policy : Policy) (leader place : ℕ) (s : Slot) → slice_get b.slots.items place ≡ Some s → takes_slot b.tallies.branches policy leader s ≡ true → IsTaken b policy leader place s
taken-at b policy leader place s stands has =
    let parts = and_parts s.left (is_taken b.tallies.branches policy leader s.run) has in
    record { stands = stands; left = parts.0; taken = parts.1 }

pub take_entries-requires-clause-allows : goal.take_entries-requires-clause-allows
take_entries-requires-clause-allows g c =
    let b = c.args.self.now in
    let s = c.index_mut-slot.result.now in
    let stands = slice_get_read b.slots.items (length b.slots.items) c.args.place s refl c.requires.place c.index_mut-slot.ensures.value in
    let at = taken-at b c.args.policy c.args.leader c.args.place s stands (sym c.if-not-takes.ensures) in
    subst (λ (es : List Entry). AllowsEntries (change_of c.args.policy s.run.label) es b.tallies) (sym c.as_slice-entries.ensures) (step-allowed b c.args.policy c.args.leader c.args.place s c.requires.books at)

pub overflow_sub-self : goal.overflow_sub-self
overflow_sub-self g c =
    let b = c.args.self.now in
    let s = c.index_mut-slot.result.now in
    let stands = slice_get_read b.slots.items (length b.slots.items) c.args.place s refl c.requires.place c.index_mut-slot.ensures.value in
    let at = taken-at b c.args.policy c.args.leader c.args.place s stands (sym c.if-not-takes.ensures) in
    omega (arith, c.failures.ensures, step-fails b c.args.policy c.args.leader c.args.place s c.requires.books at)

pub overflow_sub-self-2 : goal.overflow_sub-self-2
overflow_sub-self-2 g c =
    let b = c.args.self.now in
    let s = c.index_mut-slot.result.now in
    let stands = slice_get_read b.slots.items (length b.slots.items) c.args.place s refl c.requires.place c.index_mut-slot.ensures.value in
    let at = taken-at b c.args.policy c.args.leader c.args.place s stands (sym c.if-not-takes.ensures) in
    omega (arith, c.discards.ensures, step-length b c.args.policy c.args.leader c.args.place s c.requires.books at)

pub returns-clause-books : goal.returns-clause-books
returns-clause-books g c =
    let b = c.args.self.now in
    let s = c.index_mut-slot.result.now in
    let stands = slice_get_read b.slots.items (length b.slots.items) c.args.place s refl c.requires.place c.index_mut-slot.ensures.value in
    let at = taken-at b c.args.policy c.args.leader c.args.place s stands (sym c.if-not-takes.ensures) in
    let change = subst (λ (es : List Entry). ChangedByAll (change_of c.args.policy s.run.label) es b.tallies c.take_entries.new.tallies) c.as_slice-entries.ensures c.take_entries.ensures.changed in
    step-books b _ c.args.policy c.args.leader c.args.place s c.requires.books at change (ap (set b.slots.items c.args.place) c.take_slot.ensures) (ap (λ n. b.failing - n) c.failures.ensures) (ap (λ n. b.left - n) c.discards.ensures)

pub returns-clause-step : goal.returns-clause-step
returns-clause-step g c =
    let b = c.args.self.now in
    let s = c.index_mut-slot.result.now in
    let stands = slice_get_read b.slots.items (length b.slots.items) c.args.place s refl c.requires.place c.index_mut-slot.ensures.value in
    record {
      branches_stay = c.take_entries.ensures.changed.branches_stay;
      slots = λ x is. ap (set b.slots.items c.args.place)
          (c.take_slot.ensures ∙ sym (cond-true (takes_slot b.tallies.branches c.args.policy c.args.leader s) (taken_slot c.args.policy s) s (sym c.if-not-takes.ensures))
          ∙ ap (stepped_slot b.tallies.branches c.args.policy c.args.leader) (same_Some s x (sym stands ∙ is)));
    }

pub returns-clause-steps : goal.returns-clause-steps
returns-clause-steps g c = λ x is.
    let b = c.args.self.now in
    let s = c.index_mut-slot.result.now in
    let stands = slice_get_read b.slots.items (length b.slots.items) c.args.place s refl c.requires.place c.index_mut-slot.ensures.value in
    c.take_entries.ensures.steps
    ∙ ap (λ n. c.args.steps.now + n)
    (ap length c.as_slice-entries.ensures ∙ sym (cond-true (takes_slot b.tallies.branches c.args.policy c.args.leader s) (length s.run.entries) 0 (sym c.if-not-takes.ensures))
    ∙ ap (slot_entries_taken b.tallies.branches c.args.policy c.args.leader) (same_Some s x (sym stands ∙ is)))
