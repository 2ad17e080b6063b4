use Rattle.std.proofs.Common.{◌≡◌, ◌+◌, sym, subst, ◌∙◌, arith}
use Rattle.probes.specs.Hottest.{whole_count}
use Rattle.probes.proofs.Listed.{LeadsBelow, LeadsBelow-more, LeadsBelow-skip, LeadsBelow-all}
use Rattle.probes.proofs.hottest.hottest_counted.Goals as goal
use Rattle.probes.proofs.hottest.hottest_counted.Goals.{then-total-ne0, else-total-ne0}

pub loop-place-preserved : goal.loop-place-preserved
loop-place-preserved c =
    let l = c.loop-place in
    let count = whole_count c.args.counts.now c.args.carried.now in
    let total = c.whole_count-total.result in
    let is : count l.place ≡ total = sym c.whole_count-total.ensures in
    elim c.if-total-ne0.branch [
      | then-total-ne0 w ↦
          subst (LeadsBelow count (l.place + 1)) (sym (w.best-is ∙ w.hotter-best.ensures))
          (LeadsBelow-more count l.place l.best total is (omega (arith, w.if-total-ne0.true)) l.invariant)
      | else-total-ne0 w ↦
          subst (LeadsBelow count (l.place + 1)) (sym w.best-is)
          (LeadsBelow-skip count l.place l.best (is ∙ w.if-total-ne0.false) l.invariant)
    ]

pub returns : goal.returns
returns c = λ sites counted. LeadsBelow-all c.args.counts.now c.args.carried.now c.loop-place.place c.loop-place.best sites (omega arith) c.loop-place.invariant counted
