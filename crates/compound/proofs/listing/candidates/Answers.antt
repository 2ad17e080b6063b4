use Rattle.std.proofs.Common.{refl, ap, subst, sym, arith}
use Rattle.std.proofs.lemmas.List.{length-map}
use Rattle.elimination_tallies.proofs.RecountLemmas.{recount-failing, recount-tally}
use Rattle.fractions.specs.declared.tally.Tally.{Tally}
use Rattle.fractions.specs.Tally.{IsTally}
use Rattle.elimination_tallies.specs.Recount.{failing_runs, run_of_report, recount, runs_of}
use Rattle.compound.specs.declared.listing.Candidate.{Candidate}
use Rattle.compound.specs.Listing.{IsRated, IsRatedCandidate}
use Rattle.compound.proofs.ListingLemmas.{fractions-listed, listed-more, listed-skip, rated-fraction}
use Rattle.compound.proofs.LookLemmas.{counted}
use Rattle.compound.proofs.listing.candidates.Goals as goal

pub loop-predicate-preserved-then-tally-eq0 : goal.loop-predicate-preserved-then-tally-eq0
loop-predicate-preserved-then-tally-eq0 c =
    let branches = c.args.collection.now.branches in
    let runs = runs_of c.args.collection.now.reports in
    let p = c.loop-predicate.predicate in
    let is = counted branches runs c.args.tallies.now p c.of-tally.result c.requires (omega (arith, c.loop-predicate-test.true, c.predicates-predicate-end.ensures)) c.of-tally.ensures in
    listed-skip (recount branches runs) p (failing_runs runs) c.loop-predicate.list.items (omega (arith, ap (λ (t : Tally). t.a) is, c.if-tally-eq0.true)) c.loop-predicate.invariant

pub rating-requires-clause-tally : goal.rating-requires-clause-tally
rating-requires-clause-tally c =
    let branches = c.args.collection.now.branches in
    let runs = runs_of c.args.collection.now.reports in
    let p = c.loop-predicate.predicate in
    let is = counted branches runs c.args.tallies.now p c.of-tally.result c.requires (omega (arith, c.loop-predicate-test.true, c.predicates-predicate-end.ensures)) c.of-tally.ensures in
    subst IsTally (sym is) (recount-tally branches runs p (omega (arith, length-map c.args.collection.now.reports run_of_report, c.reports_held-held.ensures)))

pub rating-requires-clause-observed : goal.rating-requires-clause-observed
rating-requires-clause-observed c =
    let branches = c.args.collection.now.branches in
    let runs = runs_of c.args.collection.now.reports in
    let p = c.loop-predicate.predicate in
    let is = counted branches runs c.args.tallies.now p c.of-tally.result c.requires (omega (arith, c.loop-predicate-test.true, c.predicates-predicate-end.ensures)) c.of-tally.ensures in
    omega (arith, ap (λ (t : Tally). t.c) is, recount-failing branches runs p, c.failing_runs-failing.ensures.value)

pub add-requires-clause-list : goal.add-requires-clause-list
add-requires-clause-list c =
    let runs = runs_of c.args.collection.now.reports in
    fractions-listed (recount c.args.collection.now.branches runs) c.loop-predicate.predicate (failing_runs runs) c.loop-predicate.list.items c.loop-predicate.invariant

pub add-requires-clause-next : goal.add-requires-clause-next
add-requires-clause-next c = rated-fraction c.of-tally.result c.failing_runs-failing.result c.rating.result c.rating.ensures

pub loop-predicate-preserved : goal.loop-predicate-preserved
loop-predicate-preserved c =
    let branches = c.args.collection.now.branches in
    let runs = runs_of c.args.collection.now.reports in
    let numbers = recount branches runs in
    let p = c.loop-predicate.predicate in
    let is = counted branches runs c.args.tallies.now p c.of-tally.result c.requires (omega (arith, c.loop-predicate-test.true, c.predicates-predicate-end.ensures)) c.of-tally.ensures in
    let next : Candidate = record { predicate = p; failing = c.of-tally.result.a; rating = c.rating.result } in
    let rated : IsRated (numbers p) (failing_runs runs) c.rating.result =
    subst (λ (t : Tally). IsRated t (failing_runs runs) c.rating.result) is (subst (λ k. IsRated c.of-tally.result k c.rating.result) c.failing_runs-failing.ensures.value c.rating.ensures) in
    let one : IsRatedCandidate numbers (failing_runs runs) next = record { failing_is = ap (λ (t : Tally). t.a) is; rated = rated } in
    listed-more numbers p (failing_runs runs) c.loop-predicate.list.items c.add.new.list.items next c.loop-predicate.invariant one refl (omega (arith, c.if-tally-eq0.false)) c.in_ok-add.ensures
