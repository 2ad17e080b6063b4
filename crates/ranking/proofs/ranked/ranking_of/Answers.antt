use Rattle.std.proofs.Common.{List, sym, subst, arith}
use Rattle.std.proofs.lemmas.List.{length-map}
use Rattle.elimination_tallies.specs.declared.listed.Listed.{Listed}
use Rattle.elimination_tallies.specs.Recount.{run_of_report, runs_of}
use Rattle.elimination.specs.Elimination.{IsElimination}
use Rattle.ranking.specs.Ranking.{AreRowsOf}
use Rattle.ranking.proofs.ranked.ranking_of.Goals as goal

pub ranking_text-requires : goal.ranking_text-requires
ranking_text-requires c =
    let runs = runs_of c.args.collection.now.reports in
    let fits = c.eliminations_are_rows.ensures c.args.table.now c.args.policy runs c.in_ok-rows.rows
    (omega (arith, c.reports_held-runs.ensures.value, c.reports_held-runs.ensures.most, length-map c.args.collection.now.reports run_of_report))
    (subst (λ bs. IsElimination bs c.args.policy runs c.in_ok-rows.rows) c.requires c.in_ok-rows.ensures) in
    subst (λ (rows : List Listed). AreRowsOf c.args.table.now rows) (sym c.as_slice.ensures) fits.rows_fit
