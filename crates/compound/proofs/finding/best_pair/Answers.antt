use Rattle.std.proofs.Common.{Bool, List, subst, arith}
use Rattle.std.proofs.lemmas.List.{length-map}
use Rattle.elimination_tallies.specs.Predicates.{predicates_in}
use Rattle.elimination_tallies.specs.Recount.{failing_runs, run_of_report, recount, runs_of}
use Rattle.compound_counts.specs.Truth.{pair_recount}
use Rattle.compound.specs.declared.listing.Candidate.{Candidate}
use Rattle.compound.specs.Found.{ArePairsScanned, IsFound}
use Rattle.compound.specs.Listing.{candidate_predicates}
use Rattle.compound.specs.Pairs.{pairs_of}
use Rattle.compound.proofs.FoundLemmas.{found-text}
use Rattle.compound.proofs.ListingLemmas.{listed-candidates}
use Rattle.compound.proofs.finding.best_pair.Goals as goal

pub returns-clause-found : goal.returns-clause-found
returns-clause-found c =
    let branches = c.args.collection.now.branches in
    let runs = runs_of c.args.collection.now.reports in
    let found = c.in_ok-found.found in
    let list = c.in_ok-listed.listed.items in
    let scanned : ArePairsScanned (recount branches runs) (pair_recount branches runs) (failing_runs runs) (pairs_of (candidate_predicates list)) found =
    subst (λ (xs : List Candidate). ArePairsScanned (recount branches runs) (pair_recount branches runs) (failing_runs runs) (pairs_of (candidate_predicates xs)) found) c.as_slice.ensures.value c.in_ok-found.ensures in
    subst (λ (bs : List Bool). IsFound bs runs found) c.requires (record {
      candidates = candidate_predicates list;
      are_candidates = listed-candidates (recount branches runs) (predicates_in branches) (failing_runs runs) list c.in_ok-listed.ensures;
      are_scanned = scanned;
    })

pub returns-clause-text : goal.returns-clause-text
returns-clause-text c =
    found-text c.args.table.now (runs_of c.args.collection.now.reports) c.in_ok-found.found c.predicates_are_those_of_the_table.ensures
    (omega (arith, length-map c.args.collection.now.reports run_of_report, c.reports_held-held.ensures)) (returns-clause-found c)
