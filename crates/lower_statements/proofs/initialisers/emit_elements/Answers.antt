use Rattle.std.proofs.Common.{◌≡◌, ◌+◌, ◌-◌, ◌<◌, arith, drop, length, refl, subst}
use Rattle.c_syntax.specs.Plain.{plain_exprs}
use Rattle.lower_facts.specs.Facts.{facts_in, sites_in}
use Rattle.lower_relation.specs.Initialisers.{ElementsSet}
use Rattle.lower_nodes.specs.Made.{Made}
use Rattle.lower_statements.proofs.Initialising.{elements_none, elements_step}
use Rattle.lower_expressions.proofs.Rooms.{exprs_more, exprs_rest}
use Rattle.lower_statements.proofs.Rooms.{items_long}
use Rattle.lower_statements.proofs.initialisers.emit_elements.Goals as goal

pub loop-place-init : goal.loop-place-init
loop-place-init c =
    (omega arith, elements_none (facts_in c.args.facts.now) (sites_in c.args.facts.now) c.args.token _ c.args.items.now _ _, omega arith)

pub loop-place-preserved : goal.loop-place-preserved
loop-place-preserved c =
    let next : c.loop-place.place ≡ c.loop-place.place - 1 + 1 = omega (arith, c.loop-place-test.true) in
    let low : c.loop-place.place - 1 < length c.args.items.now = omega (arith, c.loop-place.invariant.0, c.loop-place-test.true) in (
      omega (arith, low),
      elements_step (facts_in c.args.facts.now) (sites_in c.args.facts.now) c.args.token c.args.items.now c.loop-place.place (c.loop-place.place - 1) _ c.index-items-place.result
          _ _ _ _ _ _ next low refl c.index-items-place.is c.loop-place.invariant.1 c.in_ok-first.ensures.made,
      omega (
        arith,
        c.in_ok-first.ensures.few,
        c.loop-place.invariant.2,
        exprs_more (sites_in c.args.facts.now) 8 c.args.items.now c.loop-place.place (c.loop-place.place - 1) c.index-items-place.result next low c.index-items-place.is,
      ),
    )

pub emit_element-requires : goal.emit_element-requires
emit_element-requires c =
    let next : c.loop-place.place ≡ c.loop-place.place - 1 + 1 = omega (arith, c.loop-place-test.true) in
    let low : c.loop-place.place - 1 < length c.args.items.now = omega (arith, c.loop-place.invariant.0, c.loop-place-test.true) in
    let more = exprs_more (sites_in c.args.facts.now) 8 c.args.items.now c.loop-place.place (c.loop-place.place - 1) c.index-items-place.result next low c.index-items-place.is in
    omega (arith, c.loop-place.invariant.2, more, exprs_rest (sites_in c.args.facts.now) 8 c.args.items.now (c.loop-place.place - 1))

pub overflow_cast-index : goal.overflow_cast-index
overflow_cast-index c = omega (arith, c.loop-place.invariant.0, c.loop-place-test.true, items_long (sites_in c.args.facts.now) c.args.items.now)

pub returns-clause-made : goal.returns-clause-made
returns-clause-made c =
    let first : c.loop-place.place ≡ 0 = omega (arith, c.loop-place-test.false) in
    subst (λ m. Made (λ G. ElementsSet G (facts_in c.args.facts.now) (sites_in c.args.facts.now) c.args.token m (plain_exprs (drop m c.args.items.now))) c.args.graph.now
    c.loop-place.graph c.loop-place.first c.args.next) first c.loop-place.invariant.1
