use Rattle.std.proofs.Common.{◌≡◌, ◌+◌, ◌-◌, ◌<◌, arith, length, subst, sym}
use Rattle.lower_nodes.specs.Made.{Made}
use Rattle.std.proofs.lemmas.List.{drop_all}
use Rattle.lower_relation.specs.Paths.{MarksAll}
use Rattle.lower_nodes.proofs.Building.{nothing_made}
use Rattle.lower_nodes.proofs.Visiting.{marks_step}
use Rattle.lower_nodes.proofs.marks.put_marks.Goals as goal

pub loop-place-preserved : goal.loop-place-preserved
loop-place-preserved c =
    let next : c.loop-place.place ≡ c.loop-place.place - 1 + 1 = omega (arith, c.loop-place-test.true) in
    let low : c.loop-place.place - 1 < length c.args.sites.now = omega (arith, c.loop-place.invariant.0, c.loop-place-test.true) in (
      omega (arith, low),
      marks_step c.args.sites.now c.loop-place.place (c.loop-place.place - 1) _ _ _ _ _ _ next low c.loop-place.invariant.1
          c.in_ok-first.ensures.number c.in_ok-first.ensures.added,
      omega (arith, c.loop-place.invariant.2, c.in_ok-first.ensures.one, c.loop-place-test.true),
    )

pub loop-place-init : goal.loop-place-init
loop-place-init c = (
  omega arith,
  subst (λ l. Made (λ G. MarksAll G l) c.args.graph.now c.args.graph.now c.args.next c.args.next) (sym (drop_all (length c.args.sites.now) c.args.sites.now (omega arith))) (nothing_made c.args.graph.now c.args.next),
  omega arith,
)
