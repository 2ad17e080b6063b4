use Rattle.std.proofs.Common.{ap, set, ◌∙◌, arith}
use Rattle.elimination_tallies.specs.declared.labelled.LabelledRun.{LabelledRun}
use Rattle.elimination_reference.specs.Relabelling.{relabelled_run}
use Rattle.elimination_reference.proofs.PlainLemmas.{changed-more}
use Rattle.elimination_reference.proofs.listing.relabel.Goals as goal

pub loop-run-preserved : goal.loop-run-preserved
loop-run-preserved c =
    let one = relabelled_run c.args.branches.now c.args.leader in
    ap (λ (r : LabelledRun). set c.loop-run.runs c.loop-run.run-index r) c.relabel_one.ensures
    ∙ changed-more one c.args.runs.now c.loop-run.runs c.loop-run.run-index c.run-item.result (omega arith) c.loop-run.invariant
