use Rattle.std.proofs.Common.{◌≤◌, ◌<◌, ◌++◌, List, [], length, sym, subst, rules, arith}
use Rattle.std.proofs.lemmas.List.{append-nil}
use Rattle.elimination_tallies.specs.declared.labelled.LabelledRun.{LabelledRun}
use Rattle.elimination_tallies.specs.declared.listed.Listed.{Listed}
use Rattle.elimination.specs.Elimination.{IsElimination}
use Rattle.elimination_tallies.specs.Leading.{IsLeader, NonePasses}
use Rattle.elimination_tallies.specs.Recount.{failing_runs}
use Rattle.elimination.proofs.EliminationLemmas.{leader-falls}
use Rattle.elimination_reference.proofs.PlainLemmas.{after-few, one-more}
use Rattle.elimination_reference.proofs.listing.eliminate.Goals as goal

pub loop-row-smaller : goal.loop-row-smaller
loop-row-smaller c =
    let leads = subst (λ (xs : List LabelledRun). IsLeader c.args.branches.now xs c.in-Some.row) c.as_slice.ensures.value c.in-Some.ensures in
    subst (λ (xs : List LabelledRun). failing_runs xs < failing_runs c.loop-row.left.items) (sym c.step.ensures)
    (leader-falls c.args.branches.now c.args.policy c.loop-row.left.items c.in-Some.row leads)

pub loop-row-preserved : goal.loop-row-preserved
loop-row-preserved c =
    let leads = subst (λ (xs : List LabelledRun). IsLeader c.args.branches.now xs c.in-Some.row) c.as_slice.ensures.value c.in-Some.ensures in (
      subst (λ (xs : List LabelledRun). length xs ≤ 100000) (sym c.step.ensures)
          (omega (arith, after-few c.args.branches.now c.args.policy c.in-Some.row.predicate c.loop-row.left.items, c.loop-row.invariant.0)),
      subst (λ (xs : List LabelledRun). (rest : List Listed) → IsElimination c.args.branches.now c.args.policy xs rest → IsElimination c.args.branches.now c.args.policy c.args.runs.items (c.push.new.self ++ rest)) (sym c.step.ensures)
          (one-more c.args.branches.now c.args.policy c.args.runs.items c.loop-row.left.items c.loop-row.rows c.push.new.self c.in-Some.row c.loop-row.invariant.1 leads (search rules)),
    )

pub returns : goal.returns
returns c =
    let none : NonePasses c.args.branches.now c.loop-row.left.items = subst (NonePasses c.args.branches.now) c.as_slice.ensures.value c.in_default.ensures in
    subst (IsElimination c.args.branches.now c.args.policy c.args.runs.items) (append-nil c.loop-row.rows) (c.loop-row.invariant.1 [] none)
