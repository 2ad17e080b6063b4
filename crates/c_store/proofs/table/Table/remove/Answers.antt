use Rattle.std.proofs.Common.{◌≡◌, ◌+◌, ap, sym, subst, ◌∙◌}
use Rattle.std.specs.FinMap as map
use Rattle.std.specs.List.{remove}
use Rattle.c_store.specs.Stacked.{IsMissing, StandsAt}
use Rattle.c_store.proofs.StackedLemmas.{popped, popped_value, get_there, got_there, get_apart, removed_apart, kept_by_removal, removed_in_order}
use Rattle.c_store.proofs.table.Table.remove.Goals as goal

pub returns-in_default-clause-value : goal.returns-in_default-clause-value
returns-in_default-clause-value c =
    let t = c.self.inside in
    let missing = subst (λ ns. IsMissing ns c.args.number) c.as_slice.ensures.value c.in_default.ensures.missing in
    c.remove.ensures.value
    ∙ sym (get_apart t.numbers.items t.blocks.items t.heap.entries c.args.number missing)
    ∙ ap (λ m. map.get m c.args.number) c.self.view_is

pub returns-in_default-clause-rest : goal.returns-in_default-clause-rest
returns-in_default-clause-rest c =
    let t = c.self.inside in
    let missing = subst (λ ns. IsMissing ns c.args.number) c.as_slice.ensures.value c.in_default.ensures.missing in
    removed_apart t.numbers.items t.blocks.items t.heap.entries c.remove.new.self.entries c.args.number missing c.remove.ensures.updates.0
    ∙ ap (λ m. map.remove m c.args.number) c.self.view_is

pub invariant_of-self-2 : goal.invariant_of-self-2
invariant_of-self-2 c =
    let t = c.self.inside in
    let there = subst (λ ns. StandsAt ns c.args.number c.in-Some.place) c.as_slice.ensures.value c.in-Some.ensures.found in
    rw (c.remove-2.ensures.items, c.remove-block.ensures.items)
    (kept_by_removal t.numbers.items t.blocks.items t.heap.entries c.in-Some.place c.self.invariant there.within)

pub returns-clause-value : goal.returns-clause-value
returns-clause-value c =
    let t = c.self.inside in
    let there = subst (λ ns. StandsAt ns c.args.number c.in-Some.place) c.as_slice.ensures.value c.in-Some.ensures.found in
    sym (got_there t.numbers.items t.blocks.items t.heap.entries c.args.number c.in-Some.place c.remove-block.result c.self.invariant there c.remove-block.ensures.value)
    ∙ ap (λ m. map.get m c.args.number) c.self.view_is

pub returns-clause-rest : goal.returns-clause-rest
returns-clause-rest c =
    let t = c.self.inside in
    let there = subst (λ ns. StandsAt ns c.args.number c.in-Some.place) c.as_slice.ensures.value c.in-Some.ensures.found in
    rw (c.remove-2.ensures.items, c.remove-block.ensures.items)
    (removed_in_order t.numbers.items t.blocks.items t.heap.entries c.args.number c.in-Some.place c.self.invariant there
    ∙ ap (λ m. map.remove m c.args.number) c.self.view_is)

pub invariant_of-self-then-place-len : goal.invariant_of-self-then-place-len
invariant_of-self-then-place-len c =
    let t = c.self.inside in
    let there = subst (λ ns. StandsAt ns c.args.number c.in-Some.place) c.as_slice.ensures.value c.in-Some.ensures.found in
    let last : c.in-Some.place + 1 ≡ t.numbers.len = c.if-place-len.true ∙ c.len.ensures in
    let even : t.blocks.len ≡ t.numbers.len = t.blocks.ok.0 ∙ sym c.self.invariant.even ∙ sym t.numbers.ok.0 in
    let numbers : c.pop.new.self.items ≡ remove t.numbers.items c.in-Some.place =
    popped t.numbers.items c.pop.new.self.items t.numbers.len c.in-Some.place c.pop.ensures.rest t.numbers.ok.0 last in
    let blocks : c.pop-then-place-len.new.self.items ≡ remove t.blocks.items c.in-Some.place =
    popped t.blocks.items c.pop-then-place-len.new.self.items t.blocks.len c.in-Some.place c.pop-then-place-len.ensures.rest t.blocks.ok.0 (last ∙ sym even) in
    rw (numbers, blocks) (kept_by_removal t.numbers.items t.blocks.items t.heap.entries c.in-Some.place c.self.invariant there.within)

pub returns-then-place-len-clause-value : goal.returns-then-place-len-clause-value
returns-then-place-len-clause-value c =
    let t = c.self.inside in
    let there = subst (λ ns. StandsAt ns c.args.number c.in-Some.place) c.as_slice.ensures.value c.in-Some.ensures.found in
    let last : c.in-Some.place + 1 ≡ t.numbers.len = c.if-place-len.true ∙ c.len.ensures in
    let even : t.blocks.len ≡ t.numbers.len = t.blocks.ok.0 ∙ sym c.self.invariant.even ∙ sym t.numbers.ok.0 in
    popped_value t.blocks.items t.blocks.len c.in-Some.place c.pop-then-place-len.result c.pop-then-place-len.ensures.value t.blocks.ok.0 (last ∙ sym even)
    ∙ sym (get_there t.numbers.items t.blocks.items t.heap.entries c.args.number c.in-Some.place c.self.invariant there)
    ∙ ap (λ m. map.get m c.args.number) c.self.view_is

pub returns-then-place-len-clause-rest : goal.returns-then-place-len-clause-rest
returns-then-place-len-clause-rest c =
    let t = c.self.inside in
    let there = subst (λ ns. StandsAt ns c.args.number c.in-Some.place) c.as_slice.ensures.value c.in-Some.ensures.found in
    let last : c.in-Some.place + 1 ≡ t.numbers.len = c.if-place-len.true ∙ c.len.ensures in
    let even : t.blocks.len ≡ t.numbers.len = t.blocks.ok.0 ∙ sym c.self.invariant.even ∙ sym t.numbers.ok.0 in
    let numbers : c.pop.new.self.items ≡ remove t.numbers.items c.in-Some.place =
    popped t.numbers.items c.pop.new.self.items t.numbers.len c.in-Some.place c.pop.ensures.rest t.numbers.ok.0 last in
    let blocks : c.pop-then-place-len.new.self.items ≡ remove t.blocks.items c.in-Some.place =
    popped t.blocks.items c.pop-then-place-len.new.self.items t.blocks.len c.in-Some.place c.pop-then-place-len.ensures.rest t.blocks.ok.0 (last ∙ sym even) in
    rw (numbers, blocks)
    (removed_in_order t.numbers.items t.blocks.items t.heap.entries c.args.number c.in-Some.place c.self.invariant there
    ∙ ap (λ m. map.remove m c.args.number) c.self.view_is)
