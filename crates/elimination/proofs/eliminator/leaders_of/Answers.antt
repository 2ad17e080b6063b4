use Rattle.std.proofs.Common.{◌≡◌, ◌+◌, ◌∙◌, Bool, List, ap, arith, subst, sym}
use Rattle.cbi_base.specs.declared.policy.Policy.{Policy}
use Rattle.elimination_tallies.specs.declared.labelled.LabelledRun.{LabelledRun}
use Rattle.elimination.specs.Elimination.{EliminatorState, runs_after_leader, entries_taken}
use Rattle.elimination_tallies.specs.Leading.{IsLeader, NonePasses}
use Rattle.elimination_tallies.specs.Recount.{failing_runs}
use Rattle.elimination.proofs.EliminationLemmas.{IsListing, leader-falls, listing-end, listing-more}
use Rattle.elimination.proofs.eliminator.leaders_of.Goals as goal

pub loop-row-smaller : goal.loop-row-smaller
loop-row-smaller g c =
    let e = c.loop-row.eliminator in
    let row = c.in-Some.row in
    omega (arith, ap (λ (x : EliminatorState). failing_runs x.runs) c.in-Some.ensures.after, leader-falls e.branches e.policy e.runs row c.in-Some.ensures.leader)

pub loop-row-preserved : goal.loop-row-preserved
loop-row-preserved g c =
    let e = c.loop-row.eliminator in
    let row = c.in-Some.row in
    let bs = c.args.eliminator.branches in
    let branches : e.branches ≡ bs = c.loop-row.invariant.0 in
    let policy : e.policy ≡ c.args.eliminator.policy = c.loop-row.invariant.1 in
    let leads : IsLeader bs e.runs row = subst (λ (xs : List Bool). IsLeader xs e.runs row) branches c.in-Some.ensures.leader in
    let runs : c.next.new.self.runs ≡ runs_after_leader bs c.args.eliminator.policy row.predicate e.runs = ap (λ (x : EliminatorState). x.runs) c.in-Some.ensures.after ∙ ap (λ (xs : List Bool). runs_after_leader xs e.policy row.predicate e.runs) branches ∙ ap (λ (p : Policy). runs_after_leader bs p row.predicate e.runs) policy in
    let steps : c.next.new.steps ≡ c.loop-row.steps + entries_taken bs c.args.eliminator.policy row.predicate e.runs =
    c.in-Some.ensures.steps ∙ ap (λ (xs : List Bool). c.loop-row.steps + entries_taken xs e.policy row.predicate e.runs) branches ∙ ap (λ (p : Policy). c.loop-row.steps + entries_taken bs p row.predicate e.runs) policy in (
      ap (λ (x : EliminatorState). x.branches) c.in-Some.ensures.after ∙ branches,
      ap (λ (x : EliminatorState). x.policy) c.in-Some.ensures.after ∙ policy,
      subst (λ (rs : List LabelledRun). IsListing bs c.args.eliminator.policy c.args.eliminator.runs rs c.push.new.self c.args.steps.now c.next.new.steps) (sym runs)
          (listing-more bs c.args.eliminator.policy c.args.eliminator.runs e.runs c.loop-row.rows c.push.new.self row c.args.steps.now c.loop-row.steps c.next.new.steps c.loop-row.invariant.2 leads steps c.in_ok-push.ensures.ok),
    )

pub returns-clause-rows : goal.returns-clause-rows
returns-clause-rows g c =
    let e = c.loop-row.eliminator in
    let bs = c.args.eliminator.branches in
    let none = subst (λ (xs : List Bool). NonePasses xs e.runs) c.loop-row.invariant.0 c.in_default.ensures.none in
    (listing-end bs c.args.eliminator.policy c.args.eliminator.runs e.runs c.loop-row.rows c.args.steps.now c.loop-row.steps c.loop-row.invariant.2 none).0

pub returns-clause-steps : goal.returns-clause-steps
returns-clause-steps g c =
    let e = c.loop-row.eliminator in
    let bs = c.args.eliminator.branches in
    let none = subst (λ (xs : List Bool). NonePasses xs e.runs) c.loop-row.invariant.0 c.in_default.ensures.none in
    c.in_default.ensures.stays.1 ∙ (listing-end bs c.args.eliminator.policy c.args.eliminator.runs e.runs c.loop-row.rows c.args.steps.now c.loop-row.steps c.loop-row.invariant.2 none).1
