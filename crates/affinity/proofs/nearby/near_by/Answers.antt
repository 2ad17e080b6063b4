use Rattle.std.proofs.Common.{arith}
use Rattle.std.proofs.lemmas.List.{length-map}
use Rattle.elimination_tallies.specs.Recount.{run_of_report, runs_of}
use Rattle.affinity.proofs.NearLemmas.{comparable, near-recounts}
use Rattle.affinity.proofs.nearby.near_by.Goals as goal

pub nearest-requires : goal.nearest-requires
nearest-requires c =
    let reports = c.args.collection.now.reports in
    comparable c.args.collection.now.branches (runs_of reports) c.args.predicate c.args.whole.now c.in_ok-left.left (omega (arith, length-map reports run_of_report, c.reports_held-held.ensures.value, c.reports_held-held.ensures.most)) c.requires c.in_ok-left.ensures

pub returns : goal.returns
returns c = near-recounts c.args.collection.now.branches (runs_of c.args.collection.now.reports) c.args.predicate c.args.whole.now c.in_ok-left.left c.in_ok-rows.rows.items c.requires c.in_ok-left.ensures c.in_ok-rows.ensures
