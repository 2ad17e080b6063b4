use Rattle.std.proofs.Common.{◌≡◌, None, Some, ap, rules, ◌∙◌}
use Rattle.std.specs.FinMap as map
use Rattle.c_store.specs.Stacked.{IsBelow, map_of}
use Rattle.c_store.proofs.StackedLemmas.{missing_of_none, kept_apart, set_apart, kept_by_push, push_in_order}
use Rattle.c_store.proofs.table.Table.insert.Goals as goal

pub invariant_of-self-then-eq : goal.invariant_of-self-then-eq
invariant_of-self-then-eq c =
    let t = c.self.inside in
    let none : map.get (map_of t.numbers.items t.blocks.items t.heap.entries) c.args.number ≡ None =
    ap (λ m. map.get m c.args.number) c.self.view_is ∙ c.requires in
    kept_apart t.numbers.items t.blocks.items t.heap.entries c.insert.new.self.entries c.args.number (Some c.args.block) c.self.invariant
    (missing_of_none t.numbers.items t.blocks.items t.heap.entries c.args.number c.self.invariant none) c.in_ok-insert.ensures.updates.0

pub returns-then-eq-clause-ok : goal.returns-then-eq-clause-ok
returns-then-eq-clause-ok c =
    let t = c.self.inside in
    let none : map.get (map_of t.numbers.items t.blocks.items t.heap.entries) c.args.number ≡ None =
    ap (λ m. map.get m c.args.number) c.self.view_is ∙ c.requires in
    set_apart t.numbers.items t.blocks.items t.heap.entries c.insert.new.self.entries c.args.number c.args.block
    (missing_of_none t.numbers.items t.blocks.items t.heap.entries c.args.number c.self.invariant none) c.in_ok-insert.ensures.updates.0
    ∙ ap (λ m. map.insert m c.args.number c.args.block) c.self.view_is

pub invariant_of-self-2 : goal.invariant_of-self-2
invariant_of-self-2 c =
    let t = c.self.inside in
    let none : map.get (map_of t.numbers.items t.blocks.items t.heap.entries) c.args.number ≡ None =
    ap (λ m. map.get m c.args.number) c.self.view_is ∙ c.requires in
    let below : IsBelow t.numbers.items c.args.number = search rules in
    rw (c.in_ok-push.ensures.items, c.in-Ok.ensures.items)
    (kept_by_push t.numbers.items t.blocks.items t.heap.entries c.args.number c.args.block c.self.invariant none below)

pub returns-clause-ok : goal.returns-clause-ok
returns-clause-ok c =
    let t = c.self.inside in
    let none : map.get (map_of t.numbers.items t.blocks.items t.heap.entries) c.args.number ≡ None =
    ap (λ m. map.get m c.args.number) c.self.view_is ∙ c.requires in
    rw (c.in_ok-push.ensures.items, c.in-Ok.ensures.items)
    (push_in_order t.numbers.items t.blocks.items t.heap.entries c.args.number c.args.block c.self.invariant none
    ∙ ap (λ m. map.insert m c.args.number c.args.block) c.self.view_is)
