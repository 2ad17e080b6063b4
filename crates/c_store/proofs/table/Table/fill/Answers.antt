use Rattle.std.proofs.Common.{◌≡◌, None, Some, IsSome, nat_eq, slice_set, refl, ap, sym, subst, ◌∙◌}
use Rattle.std.specs.FinMap as map
use Rattle.std.specs.Map.{lookup}
use Rattle.c_store.specs.Stacked.{IsMissing, StandsAt, map_of}
use Rattle.c_store.specs.Written.{filled_map}
use Rattle.c_store.proofs.StackedLemmas.{got_there, get_apart, set_apart, set_in_order, filled_some, filled_none}
use Rattle.c_store.proofs.table.Table.fill.Goals as goal

pub returns-in_default-get_mut : goal.returns-in_default-get_mut
returns-in_default-get_mut c =
    let t = c.self.inside in
    let ns = t.numbers.items in
    let bs = t.blocks.items in
    let es = t.heap.entries in
    let missing = subst (λ xs. IsMissing xs c.args.number) c.as_slice.ensures.value c.in_default.ensures.missing in
    let none : lookup (nat_eq c.args.number) es ≡ None = sym c.in_default-get_mut.ensures.value in
    ap (λ h. map_of ns bs h.entries) c.get_mut.follows.holds-at-none
    ∙ c.self.view_is
    ∙ filled_none c.args.self.now c.args.number c.args.value
    (ap (λ m. map.get m c.args.number) (sym c.self.view_is) ∙ get_apart ns bs es c.args.number missing ∙ none)

pub returns-in_default : goal.returns-in_default
returns-in_default c =
    let t = c.self.inside in
    let ns = t.numbers.items in
    let bs = t.blocks.items in
    let es = t.heap.entries in
    let w = c.fill.new.self in
    let b = c.in-Some-get_mut.block.now in
    let fs = (c.get_mut.follows.lender w).entries in
    let missing = subst (λ xs. IsMissing xs c.args.number) c.as_slice.ensures.value c.in_default.ensures.missing in
    let there : lookup (nat_eq c.args.number) es ≡ Some b = sym c.in-Some-get_mut.ensures.value in
    let up = ((c.get_mut.follows.holds w).3 (subst IsSome (sym there) refl)).0 in
    subst (λ m. map_of ns bs fs ≡ filled_map c.args.number c.args.value (map.get m c.args.number) m) c.self.view_is
    (filled_some (map_of ns bs es) (map_of ns bs fs) c.args.number c.args.value b w (get_apart ns bs es c.args.number missing ∙ there) c.fill.ensures
    (set_apart ns bs es fs c.args.number w missing up))

pub returns : goal.returns
returns c =
    let t = c.self.inside in
    let ns = t.numbers.items in
    let bs = t.blocks.items in
    let es = t.heap.entries in
    let w = c.fill-2.new.self in
    let b = c.index_mut-block.result.now in
    let there = subst (λ xs. StandsAt xs c.args.number c.in-Some.place) c.as_slice.ensures.value c.in-Some.ensures.found in
    let becomes = set_in_order ns bs es c.args.number c.in-Some.place w c.self.invariant there in
    subst (λ m. map_of ns (slice_set bs c.in-Some.place w) es ≡ filled_map c.args.number c.args.value (map.get m c.args.number) m) c.self.view_is
    (filled_some (map_of ns bs es) (map_of ns (slice_set bs c.in-Some.place w) es) c.args.number c.args.value b w
    (got_there ns bs es c.args.number c.in-Some.place b c.self.invariant there c.index_mut-block.ensures.value) c.fill-2.ensures becomes)
