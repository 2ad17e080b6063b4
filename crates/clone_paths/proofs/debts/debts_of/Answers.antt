use Rattle.std.proofs.Common.{◌≡◌, ◌+◌, ◌<◌, ℕ, length, set, get_or, refl, ap, sym, ◌∙◌, subst, arith, rules}
use Rattle.std.proofs.lemmas.Option.{get_or_from_slice_get, slice_get_read}
use Rattle.base_lists.proofs.Options.{none_is}
use Rattle.flow.specs.declared.node.View.{View}
use Rattle.flow.specs.Nodes.{led_to}
use Rattle.regions.specs.Flags.{is_in}
use Rattle.regions.specs.Weighty.{views_of}
use Rattle.regions.proofs.Within.{node_at}
use Rattle.weights.specs.Paths.{mark_count}
use Rattle.clone_paths.specs.Parts.{next_inside}
use Rattle.clone_paths.proofs.DebtLemmas.{Owed, inside_within, owed_all, owed_more, owed_same}
use Rattle.clone_paths.proofs.debts.debts_of.Goals as goal
use Rattle.clone_paths.proofs.debts.debts_of.Goals.{in-Some, in_default}

pub index_mut-requires : goal.index_mut-requires
index_mut-requires c =
    let here = ap (λ (v : View). next_inside (is_in c.args.starts.now) (led_to v)) (node_at c.args.nodes.now c.loop-place.place c.loop-place-test.true) ∙ sym c.in-Some.ensures in
    let within = inside_within c.args.nodes.now c.args.starts.now c.loop-place.place c.in-Some.next c.requires.order here in
    let inside : c.in-Some.next < length c.loop-place.debts.items = omega (arith, within, c.loop-place.invariant.few) in
    search rules

pub loop-place-preserved : goal.loop-place-preserved
loop-place-preserved c =
    let nodes = c.args.nodes.now in
    let place = c.loop-place.place in
    let items = c.loop-place.debts.items in
    let at = node_at c.args.nodes.now c.loop-place.place c.loop-place-test.true in
    let here = ap (λ (v : View). next_inside (is_in c.args.starts.now) (led_to v)) at ∙ sym c.next_inside.ensures in
    let inside : c.loop-place.place < length c.loop-place.debts.items = omega (arith, c.loop-place.invariant.few) in
    elim c.match-next_inside.branch [
      | in-Some w ↦
          let read : get_or c.loop-place.debts.items c.loop-place.place 0 ≡ w.index.result.now =
          get_or_from_slice_get items place w.index.result.now 0 (slice_get_read items (length items) place w.index.result.now refl inside w.index.ensures)
          in
          let marks : mark_count (views_of c.args.nodes.now c.loop-place.place) ≡ w.mark_count.result = ap mark_count at ∙ sym w.mark_count.ensures in
          let value : get_or c.loop-place.debts.items c.loop-place.place 0 + mark_count (views_of c.args.nodes.now c.loop-place.place) ≡ w.index.result.now + w.mark_count.result =
          omega (arith, read, marks)
          in
          rw w.debts-is (subst (λ (v : ℕ). Owed nodes c.args.starts.now (place + 1) (set items w.in-Some.next v)) value
          (owed_more nodes c.args.starts.now place w.in-Some.next items c.requires.order c.requires.starts c.loop-place.invariant (here ∙ w.in-Some.is)))
      | in_default w ↦
          rw w.debts-is (owed_same nodes c.args.starts.now place items c.requires.starts c.loop-place.invariant (here ∙ none_is c.next_inside.result w.in_default.not-Some))
    ]

pub returns : goal.returns
returns c =
    let all : c.loop-place.place ≡ length c.args.nodes.now = omega arith in
    owed_all c.args.nodes.now c.args.starts.now c.loop-place.debts.items
    (subst (λ (k : ℕ). Owed c.args.nodes.now c.args.starts.now k c.loop-place.debts.items) all c.loop-place.invariant)
