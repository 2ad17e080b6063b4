use Rattle.std.proofs.Common.{◌≡◌, ◌∙◌, Bool, List, ap, arith, length}
use Rattle.std.proofs.lemmas.List.{length-map}
use Rattle.cbi_base.specs.declared.policy.Policy.TheVariants.{All as Every}
use Rattle.collector.specs.Sites.{branches_of}
use Rattle.elimination_tallies.specs.declared.labelled.LabelledRun.{LabelledRun}
use Rattle.elimination_tallies.specs.Recount.{run_of_report, runs_of}
use Rattle.elimination.specs.Elimination.{runs_after_leader}
use Rattle.affinity.proofs.NearLemmas.{left-few}
use Rattle.affinity_reference.proofs.NextLemmas.{near-is}
use Rattle.affinity_reference.proofs.plain.plain_near.Goals as goal

pub first_five-requires-clause-left : goal.first_five-requires-clause-left
first_five-requires-clause-left c =
    omega (arith, ap length (c.as_slice-4.ensures.value ∙ c.step.ensures), left-few c.as_slice.result.now c.args.predicate c.in_ok-left.left.items, ap length c.in_ok-left.ensures, length-map c.args.collection.now.reports run_of_report, c.reports_held-held.ensures.value, c.reports_held-held.ensures.most)

pub returns : goal.returns
returns c =
    let bs = branches_of c.args.table.now.sites in
    let p = c.args.predicate in
    let runs = runs_of c.args.collection.now.reports in
    let sites : c.in_ok-branches.branches.items ≡ bs = c.in_ok-branches.ensures ∙ ap branches_of c.sites.ensures.value in
    let left : c.as_slice-4.result.now ≡ runs_after_leader bs Every p runs =
    c.as_slice-4.ensures.value ∙ c.step.ensures ∙ ap (λ (xs : List Bool). runs_after_leader xs Every p c.in_ok-left.left.items) (c.as_slice.ensures.value ∙ sites) ∙ ap (λ (rs : List LabelledRun). runs_after_leader bs Every p rs) c.in_ok-left.ensures in
    near-is c.as_slice-2.result.now bs c.as_slice-3.result.now runs c.as_slice-4.result.now p c.in_ok-rows.rows.items (c.as_slice-2.ensures.value ∙ sites) (c.as_slice-3.ensures.value ∙ c.in_ok-runs.ensures) left c.in_ok-rows.ensures
