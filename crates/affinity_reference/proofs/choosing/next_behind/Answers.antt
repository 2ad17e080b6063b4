use Rattle.std.proofs.Common.{◌+◌, ◌∙◌, Option, Some, ap, arith, refl, subst, sym}
use Rattle.elimination_tallies.specs.Predicates.{predicates_in}
use Rattle.affinity.specs.declared.neighbour.Neighbour.{Neighbour}
use Rattle.affinity.specs.Falls.{scores_over}
use Rattle.affinity.proofs.FallLemmas.{IsSeen}
use Rattle.affinity_reference.specs.Choosing.{IsNext}
use Rattle.affinity_reference.proofs.NextLemmas.{seen-before, seen-ended, seen-next, seen-passed}
use Rattle.affinity_reference.proofs.choosing.next_behind.Goals.{in-Some+then-is_behind, in-Some+else-is_behind, in_default}
use Rattle.affinity_reference.proofs.choosing.next_behind.Goals as goal

pub loop-other-preserved : goal.loop-other-preserved
loop-other-preserved c =
    let count = predicates_in c.args.branches.now in
    let p = c.args.predicate in
    let whole = scores_over c.args.branches.now c.args.runs.now in
    let left = scores_over c.args.branches.now c.args.left.now in
    let k = c.loop-other.other in
    let rows = c.args.rows.now in
    elim c.match-neighbour.branch [
      | in-Some+then-is_behind w ↦
          subst (λ (o : Option Neighbour). IsNext (IsSeen count p whole left (k + 1)) rows o) (sym (w.best-is ∙ ap Some w.better.ensures))
          (seen-next count p whole left k rows c.loop-other.best w.in-Some.next w.in-Some.ensures.other w.in-Some.ensures.some (w.if-is_behind.ensures.yes refl) c.loop-other.invariant)
      | in-Some+else-is_behind w ↦
          subst (λ (o : Option Neighbour). IsNext (IsSeen count p whole left (k + 1)) rows o) (sym w.best-is)
          (seen-before count p whole left k rows c.loop-other.best w.in-Some.next w.in-Some.ensures.other w.in-Some.ensures.some (w.if-is_behind.ensures.no refl) c.loop-other.invariant)
      | in_default w ↦
          subst (λ (o : Option Neighbour). IsNext (IsSeen count p whole left (k + 1)) rows o) (sym w.best-is)
          (seen-passed count p whole left k rows c.loop-other.best w.in_default.ensures.none c.loop-other.invariant)
    ]

pub returns : goal.returns
returns c =
    seen-ended (predicates_in c.args.branches.now) c.args.predicate (scores_over c.args.branches.now c.args.runs.now) (scores_over c.args.branches.now c.args.left.now) c.loop-other.other c.args.rows.now c.loop-other.best
    (omega (arith, c.loop-other-test.false, c.predicates_in-other-end.ensures.value)) c.loop-other.invariant
