use Rattle.std.proofs.Common.{◌+◌, subst, sym, arith}
use Rattle.elimination_tallies.specs.Predicates.{predicates_in}
use Rattle.affinity.specs.Kept.{scores_by}
use Rattle.affinity.specs.Near.{AreFirst}
use Rattle.affinity.proofs.FallLemmas.{IsSeen, seen-all, seen-more, seen-same}
use Rattle.affinity.proofs.comparing.nearest.Goals.{in-Some+in_ok-offer, in_default}
use Rattle.affinity.proofs.comparing.nearest.Goals as goal

pub loop-other-preserved : goal.loop-other-preserved
loop-other-preserved c =
    let count = predicates_in c.args.whole.now.branches in
    let p = c.args.predicate in
    let whole = scores_by c.args.whole.now c.args.rest.now.all in
    let left = scores_by c.args.rest.now.numbers c.args.rest.now.failing in
    let k = c.loop-other.other in
    elim c.match-neighbour.branch [
      | in-Some+in_ok-offer w ↦
          subst (λ rows. AreFirst 5 (IsSeen count p whole left (k + 1)) rows.items) (sym w.rows-is)
          (seen-more count p whole left k w.in-Some.next c.loop-other.rows.items w.offer.new.rows.items w.in-Some.ensures.other w.in-Some.ensures.some w.in_ok-offer.ensures c.loop-other.invariant)
      | in_default w ↦
          subst (λ rows. AreFirst 5 (IsSeen count p whole left (k + 1)) rows.items) (sym w.rows-is)
          (seen-same count p whole left k c.loop-other.rows.items w.in_default.ensures.none c.loop-other.invariant)
    ]

pub returns : goal.returns
returns c =
    seen-all (predicates_in c.args.whole.now.branches) c.args.predicate (scores_by c.args.whole.now c.args.rest.now.all) (scores_by c.args.rest.now.numbers c.args.rest.now.failing) c.loop-other.other c.loop-other.rows.items
    (omega (arith, c.loop-other-test.false, c.predicates-other-end.ensures)) c.loop-other.invariant
