use Rattle.std.proofs.Common.{subst, sym}
use Rattle.std.specs.Prelude.{All}
use Rattle.elimination_tallies.specs.declared.listed.Listed.{Listed}
use Rattle.elimination_tallies.specs.Recount.{runs_of}
use Rattle.affinity.specs.Dealing.{IsListed}
use Rattle.affinity.proofs.CardLemmas.{are-listed}
use Rattle.affinity.proofs.dealing.cards.Goals as goal

pub dealt-requires-clause-listed : goal.dealt-requires-clause-listed
dealt-requires-clause-listed c =
    let bs = c.args.collection.now.branches in
    let runs = runs_of c.args.collection.now.reports in
    subst (All (λ (row : Listed). IsListed bs runs row.predicate)) (sym c.as_slice.ensures) (are-listed bs runs c.in_ok-rows.rows c.in_ok-rows.ensures)
