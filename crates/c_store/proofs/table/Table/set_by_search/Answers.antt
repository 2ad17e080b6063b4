use Rattle.std.proofs.Common.{◌≡◌, None, Some, IsSome, is_some, nat_eq, slice_set, refl, ap, sym, subst, ◌∙◌}
use Rattle.std.specs.FinMap as map
use Rattle.std.specs.Map.{lookup}
use Rattle.std.proofs.lemmas.Result.{on_err_weaker}
use Rattle.c_store.specs.Stacked.{IsMissing, StandsAt, map_of}
use Rattle.c_store.specs.Written.{stored_in, state_or_trap}
use Rattle.c_store.proofs.StackedLemmas.{got_there, get_apart, apart_is_missing, set_apart, set_in_order, stored_some, stored_none, unchanged}
use Rattle.c_store.proofs.table.Table.set_by_search.Goals as goal

pub returns-in-Some-clause-value : goal.returns-in-Some-clause-value
returns-in-Some-clause-value c =
    let t = c.self.inside in
    let ns = t.numbers.items in
    let bs = t.blocks.items in
    let es = t.heap.entries in
    let k = c.args.number in
    let w = c.set.new.self in
    let b = c.in-Some.block.now in
    let fs = (c.get_mut.follows.lender w).entries in
    let there : lookup (nat_eq k) es ≡ Some b = sym c.in-Some.ensures.value in
    let missing = apart_is_missing ns es k c.self.invariant.apart (ap is_some there) in
    let at : map.get (map_of ns bs es) k ≡ Some b = get_apart ns bs es k missing ∙ there in
    let becomes = set_apart ns bs es fs k w missing ((c.get_mut.follows.holds w).3 (subst IsSome (sym there) refl)).0 in
    subst (λ m. stored_in k c.args.offset c.args.value (map.get m k) m ≡ state_or_trap c.set.result (map_of ns bs fs)) c.self.view_is
    (stored_some (map_of ns bs es) (map_of ns bs fs) k c.args.offset c.args.value b w c.set.result at c.set.ensures.value becomes)

pub returns-in-Some-clause-trap : goal.returns-in-Some-clause-trap
returns-in-Some-clause-trap c =
    let t = c.self.inside in
    let ns = t.numbers.items in
    let bs = t.blocks.items in
    let es = t.heap.entries in
    let k = c.args.number in
    let w = c.set.new.self in
    let b = c.in-Some.block.now in
    let fs = (c.get_mut.follows.lender w).entries in
    let there : lookup (nat_eq k) es ≡ Some b = sym c.in-Some.ensures.value in
    let missing = apart_is_missing ns es k c.self.invariant.apart (ap is_some there) in
    let at : map.get (map_of ns bs es) k ≡ Some b = get_apart ns bs es k missing ∙ there in
    let becomes = set_apart ns bs es fs k w missing ((c.get_mut.follows.holds w).3 (subst IsSome (sym there) refl)).0 in
    on_err_weaker c.set.result (λ same. unchanged (map_of ns bs es) (map_of ns bs fs) k b w at same becomes ∙ c.self.view_is) c.set.ensures.trap

pub returns-in_default-search-clause-value : goal.returns-in_default-search-clause-value
returns-in_default-search-clause-value c =
    let t = c.self.inside in
    let ns = t.numbers.items in
    let bs = t.blocks.items in
    let es = t.heap.entries in
    let k = c.args.number in
    let missing = subst (λ xs. IsMissing xs k) c.as_slice.ensures.value c.in_default-search.ensures.missing in
    let none : lookup (nat_eq k) es ≡ None = sym c.in_default.ensures.value in
    stored_none c.args.self.now k c.args.offset c.args.value (ap (λ m. map.get m k) (sym c.self.view_is) ∙ get_apart ns bs es k missing ∙ none)

pub returns-clause-value : goal.returns-clause-value
returns-clause-value c =
    let t = c.self.inside in
    let ns = t.numbers.items in
    let bs = t.blocks.items in
    let es = t.heap.entries in
    let k = c.args.number in
    let there = subst (λ xs. StandsAt xs k c.in-Some-search.place) c.as_slice.ensures.value c.in-Some-search.ensures.found in
    let w = c.set-2.new.self in
    let b = c.index_mut-block.result.now in
    let at : map.get (map_of ns bs es) k ≡ Some b = got_there ns bs es k c.in-Some-search.place b c.self.invariant there c.index_mut-block.ensures.value in
    let heap : map_of ns (slice_set bs c.in-Some-search.place w) c.get_mut.follows.lender-at-none.entries ≡ map_of ns (slice_set bs c.in-Some-search.place w) es =
    ap (λ h. map_of ns (slice_set bs c.in-Some-search.place w) h.entries) c.get_mut.follows.holds-at-none in
    let becomes = heap ∙ set_in_order ns bs es k c.in-Some-search.place w c.self.invariant there in
    subst (λ m. stored_in k c.args.offset c.args.value (map.get m k) m ≡ state_or_trap c.set-2.result (map_of ns (slice_set bs c.in-Some-search.place w) c.get_mut.follows.lender-at-none.entries)) c.self.view_is
    (stored_some (map_of ns bs es) (map_of ns (slice_set bs c.in-Some-search.place w) c.get_mut.follows.lender-at-none.entries) k c.args.offset c.args.value b w c.set-2.result at c.set-2.ensures.value becomes)
