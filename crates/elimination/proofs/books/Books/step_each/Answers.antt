use Rattle.std.proofs.Common.{◌≡◌, ◌<◌, ◌∙◌, ap, arith, get_or, length, refl}
use Rattle.std.proofs.lemmas.List.{get_or_default, length-set}
use Rattle.elimination.specs.Slots.{stepped_slot}
use Rattle.elimination.proofs.SlotLemmas.{pending-more, slot-there, stepped-more, stepped-none}
use Rattle.elimination.proofs.books.Books.step_each.Goals as goal

pub loop-place-init : goal.loop-place-init
loop-place-init g c = (c.requires.books, stepped-none c.args.policy c.args.leader c.args.self.now, refl, refl)

pub step-requires-clause-place : goal.step-requires-clause-place
step-requires-clause-place g c = omega (arith, c.requires.places c.loop-place.place-index 0 c.loop-place-test.true, c.loop-place.invariant.2)

pub loop-place-preserved : goal.loop-place-preserved
loop-place-preserved g c =
    let b = c.loop-place.self in
    let j = c.loop-place.place-index in
    let place = get_or c.args.places.now j 0 in
    let inside : place < length b.slots.items = omega (arith, c.requires.places j 0 c.loop-place-test.true, c.loop-place.invariant.2) in
    let there = slot-there b.slots.items place inside in
    let len : length c.step.new.self.slots.items ≡ length b.slots.items =
    ap length (c.step.ensures.step.slots there.0 there.1) ∙ length-set b.slots.items place (stepped_slot b.tallies.branches c.args.policy c.args.leader there.0) in (
      c.step.ensures.books,
      stepped-more c.args.policy c.args.leader j place c.args.places.now c.args.self.now b c.step.new.self there.0 c.loop-place-test.true (get_or_default c.args.places.now j 0 place c.loop-place-test.true) there.1 c.loop-place.invariant.1 c.step.ensures.step,
      len ∙ c.loop-place.invariant.2,
      pending-more c.args.policy c.args.leader place c.loop-place.steps c.step.new.steps _ c.args.self.now b c.step.new.self there.0 there.1 c.loop-place.invariant.1.branches_stay c.step.ensures.step (c.step.ensures.steps there.0 there.1) c.loop-place.invariant.3,
    )
