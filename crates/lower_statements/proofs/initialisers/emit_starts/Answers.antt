use Rattle.std.proofs.Common.{◌≡◌, ◌+◌, ◌-◌, ◌<◌, arith, drop, length, map, subst}
use Rattle.c_syntax.specs.Plain.{plain_start}
use Rattle.lower_facts.specs.Facts.{facts_in, sites_in}
use Rattle.lower_relation.specs.Initialisers.{VariablesStart}
use Rattle.lower_nodes.specs.Made.{Made}
use Rattle.lower_statements.proofs.Initialising.{starts_none, starts_step}
use Rattle.lower_statements.proofs.Rooms.{starts_more, starts_rest}
use Rattle.lower_statements.proofs.initialisers.emit_starts.Goals as goal

pub loop-place-init : goal.loop-place-init
loop-place-init c =
    (omega arith, starts_none (facts_in c.args.facts.now) (sites_in c.args.facts.now) c.args.starts.now _ _, omega arith)

pub loop-place-preserved : goal.loop-place-preserved
loop-place-preserved c =
    let next : c.loop-place.place ≡ c.loop-place.place - 1 + 1 = omega (arith, c.loop-place-test.true) in
    let low : c.loop-place.place - 1 < length c.args.starts.now = omega (arith, c.loop-place.invariant.0, c.loop-place-test.true) in (
      omega (arith, low),
      starts_step (facts_in c.args.facts.now) (sites_in c.args.facts.now) c.args.starts.now c.loop-place.place (c.loop-place.place - 1) c.index-starts-place.result
          _ _ _ _ _ _ next low c.index-starts-place.is c.loop-place.invariant.1 c.in_ok-first.ensures.made,
      omega (
        arith,
        c.in_ok-first.ensures.few,
        c.loop-place.invariant.2,
        starts_more (sites_in c.args.facts.now) c.args.starts.now c.loop-place.place (c.loop-place.place - 1) c.index-starts-place.result next low c.index-starts-place.is,
      ),
    )

pub emit_start-requires : goal.emit_start-requires
emit_start-requires c =
    let next : c.loop-place.place ≡ c.loop-place.place - 1 + 1 = omega (arith, c.loop-place-test.true) in
    let low : c.loop-place.place - 1 < length c.args.starts.now = omega (arith, c.loop-place.invariant.0, c.loop-place-test.true) in
    let more = starts_more (sites_in c.args.facts.now) c.args.starts.now c.loop-place.place (c.loop-place.place - 1) c.index-starts-place.result next low c.index-starts-place.is in
    omega (arith, c.loop-place.invariant.2, more, starts_rest (sites_in c.args.facts.now) c.args.starts.now (c.loop-place.place - 1))

pub returns-clause-made : goal.returns-clause-made
returns-clause-made c =
    let first : c.loop-place.place ≡ 0 = omega (arith, c.loop-place-test.false) in
    subst (λ m. Made (λ G. VariablesStart G (facts_in c.args.facts.now) (sites_in c.args.facts.now) (map plain_start (drop m c.args.starts.now))) c.args.graph.now
    c.loop-place.graph c.loop-place.first c.args.next) first c.loop-place.invariant.1
