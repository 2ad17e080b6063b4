use Rattle.std.proofs.Common.{◌+◌, ℕ, List, None, Some, ap, arith, length, subst, sym}
use Rattle.std.proofs.lemmas.List.{length_push}
use Rattle.elimination_tallies.specs.Predicates.{predicates_in}
use Rattle.affinity.specs.declared.neighbour.Neighbour.{Neighbour}
use Rattle.affinity.specs.Falls.{scores_over}
use Rattle.affinity.specs.Near.{AreFirst, IsNeighbour}
use Rattle.affinity_reference.specs.Choosing.{IsNext}
use Rattle.affinity_reference.proofs.NextLemmas.{firsts-end, firsts-more, firsts-none}
use Rattle.affinity_reference.proofs.plain.first_five.Goals as goal

pub loop-place-init : goal.loop-place-init
loop-place-init c =
    let S = IsNeighbour (predicates_in c.args.branches.now) c.args.predicate (scores_over c.args.branches.now c.args.runs.now) (scores_over c.args.branches.now c.args.left.now) in
    (subst (AreFirst 0 S) (sym c.new-rows.ensures.items) (firsts-none S), ap length c.new-rows.ensures.items)

pub returns-in_default : goal.returns-in_default
returns-in_default c =
    let S = IsNeighbour (predicates_in c.args.branches.now) c.args.predicate (scores_over c.args.branches.now c.args.runs.now) (scores_over c.args.branches.now c.args.left.now) in
    firsts-end c.loop-place._place 5 S c.loop-place.rows.items (omega (arith, c.loop-place-test.true)) c.loop-place.invariant.0 (subst (λ (xs : List Neighbour). IsNext S xs None) c.as_slice.ensures.value c.in_default.ensures)

pub loop-place-preserved : goal.loop-place-preserved
loop-place-preserved c =
    let S = IsNeighbour (predicates_in c.args.branches.now) c.args.predicate (scores_over c.args.branches.now c.args.runs.now) (scores_over c.args.branches.now c.args.left.now) in
    let k = c.loop-place._place in
    let rows = c.loop-place.rows.items in
    let next = c.in-Some.next in
    let made = c.in_ok-push.ensures.items in (
      subst (AreFirst (k + 1) S) (sym made) (firsts-more k S rows next c.loop-place.invariant.1 c.loop-place.invariant.0 (subst (λ (xs : List Neighbour). IsNext S xs (Some next)) c.as_slice.ensures.value c.in-Some.ensures)),
      omega (arith, ap length made, length_push rows next, c.loop-place.invariant.1),
    )

pub returns : goal.returns
returns c =
    let S = IsNeighbour (predicates_in c.args.branches.now) c.args.predicate (scores_over c.args.branches.now c.args.runs.now) (scores_over c.args.branches.now c.args.left.now) in
    subst (λ (n : ℕ). AreFirst n S c.loop-place.rows.items) (omega (arith, c.loop-place-test.false)) c.loop-place.invariant.0
