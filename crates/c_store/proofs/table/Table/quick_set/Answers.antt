use Rattle.std.proofs.Common.{◌≡◌, Result, Ok, Some, slice_set, subst}
use Rattle.std.specs.FinMap as map
use Rattle.cbi_base.specs.declared.trap.Trap.{Trap}
use Rattle.c_store.specs.Stacked.{StandsAt, map_of}
use Rattle.c_store.specs.Written.{stored_in}
use Rattle.c_store.proofs.StackedLemmas.{got_there, set_in_order, stored_some}
use Rattle.c_store.proofs.table.Table.quick_set.Goals as goal

pub returns-clause-done : goal.returns-clause-done
returns-clause-done c done =
    let t = c.self.inside in
    let ns = t.numbers.items in
    let bs = t.blocks.items in
    let es = t.heap.entries in
    let k = c.args.number in
    let there = subst (λ xs. StandsAt xs k c.in-Some.place) c.as_slice.ensures.value c.in-Some.ensures in
    let w = c.quick_set.new.self in
    let b = c.index_mut-block.result.now in
    let at : map.get (map_of ns bs es) k ≡ Some b = got_there ns bs es k c.in-Some.place b c.self.invariant there c.index_mut-block.ensures.value in
    let becomes = set_in_order ns bs es k c.in-Some.place w c.self.invariant there in
    let stands : Result (Unit {0}) Trap = Ok tt in
    subst (λ m. stored_in k c.args.offset c.args.value (map.get m k) m ≡ Ok (map_of ns (slice_set bs c.in-Some.place w) es)) c.self.view_is
    (stored_some (map_of ns bs es) (map_of ns (slice_set bs c.in-Some.place w) es) k c.args.offset c.args.value b w stands at (c.quick_set.ensures.done done) becomes)
