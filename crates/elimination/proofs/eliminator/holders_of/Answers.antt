use Rattle.std.proofs.Common.{◌≡◌, ℕ, ◌+◌, ◌<◌, List, ap, arith, get_or, length, subst, sym, take}
use Rattle.std.specs.Prelude.{All}
use Rattle.std.proofs.lemmas.List.{with_items_is}
use Rattle.report_file.specs.declared.report.Entry.{Entry}
use Rattle.elimination.specs.declared.books.Slot.{Slot}
use Rattle.elimination.specs.Slots.{AreHolders, IsHeldToo}
use Rattle.elimination.proofs.HolderLemmas.{holders-more, holders-none}
use Rattle.elimination.proofs.eliminator.holders_of.Goals as goal

pub loop-place-init : goal.loop-place-init
loop-place-init c = holders-none c.args.sites c.in_ok-holders.holders.items c.in_ok-holders.ensures

pub loop-place-preserved : goal.loop-place-preserved
loop-place-preserved c =
    let i = c.loop-place.place in
    let slot = c.index-slots-place.result in
    let at : slot ≡ get_or c.args.slots.now i slot = c.index-slots-place.is in
    let entries = subst (λ (s : Slot). All (λ (e : Entry). e.site < c.args.sites) s.run.entries) (sym at) (c.requires.entries i slot c.loop-place-test.true) in
    let new = c.add_holder.new.holders in
    let one : IsHeldToo i slot.run.entries c.loop-place.holders.items new = subst (λ (es : List Entry). IsHeldToo i es c.loop-place.holders.items new) c.as_slice.ensures
    (subst (λ (hs : List (List ℕ)). IsHeldToo i c.as_slice.result.now hs new) c.as_mut_slice.ensures.value c.in_ok-add_holder.ensures) in
    let items = with_items_is c.loop-place.holders new (omega (arith, one.as_many, ap length c.as_mut_slice.ensures.value, c.as_mut_slice.ensures.len)) in
    subst (AreHolders c.args.sites (take (i + 1) c.args.slots.now)) (sym items)
    (holders-more c.args.sites i c.args.slots.now slot c.loop-place.holders.items new c.loop-place-test.true at entries c.loop-place.invariant one)
