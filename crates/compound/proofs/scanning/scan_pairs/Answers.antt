use Rattle.std.proofs.Common.{◌≡◌, ℕ, ◌<◌, ◌∷◌, ◌++◌, [], Bool, List, None, length, get_or, take, refl, ap, subst, sym, ◌∙◌, arith}
use Rattle.std.specs.Prelude.{All}
use Rattle.std.proofs.lemmas.List.{length-map}
use Rattle.elimination_tallies.specs.Predicates.{predicates_in}
use Rattle.elimination_tallies.specs.Recount.{failing_runs, run_of_report, recount, runs_of}
use Rattle.compound_counts.specs.Truth.{pair_recount}
use Rattle.compound.specs.declared.listing.Candidate.{Candidate}
use Rattle.compound.specs.Listing.{candidate_predicates}
use Rattle.compound.specs.Pairs.{pairs_of}
use Rattle.compound.specs.Scanning.{IsScan}
use Rattle.compound.proofs.FoundLemmas.{scan-found}
use Rattle.compound.proofs.LookLemmas.{done-all, done-more, listed-below, pair-numbers, pair-sound, places-few, places-many, true-in-some, within}
use Rattle.compound.proofs.scanning.scan_pairs.Goals as goal

pub new-requires-clause-predicates : goal.new-requires-clause-predicates
new-requires-clause-predicates c =
    let branches = c.args.collection.now.branches in
    let runs = runs_of c.args.collection.now.reports in
    let below = listed-below (recount branches runs) (predicates_in branches) (failing_runs runs) c.args.candidates.now c.requires.candidates in
    subst (λ (bs : List Bool). All (λ p. p < predicates_in bs) c.as_slice.result.now) (sym c.requires.tallies.branches_are)
    (subst (All (λ p. p < predicates_in branches)) (sym (c.as_slice.ensures.value ∙ c.in_ok-predicates.ensures)) below)

pub bounds-candidates-places : goal.bounds-candidates-places
bounds-candidates-places c =
    (within (length c.args.candidates.now) c.loop-places.places-index c.as_slice-places-items.result.now (c.as_slice-places-items.ensures.value ∙ c.in_ok-pairs.ensures) c.loop-places-test.true).0

pub bounds-candidates-places-in-loop-places : goal.bounds-candidates-places-in-loop-places
bounds-candidates-places-in-loop-places c =
    (within (length c.args.candidates.now) c.loop-places.places-index c.as_slice-places-items.result.now (c.as_slice-places-items.ensures.value ∙ c.in_ok-pairs.ensures) c.loop-places-test.true).1

-- there is a row for each candidate
pub look-scan-requires-clause-left_place : goal.look-scan-requires-clause-left_place
look-scan-requires-clause-left_place c =
    let both = within (length c.args.candidates.now) c.loop-places.places-index c.as_slice-places-items.result.now (c.as_slice-places-items.ensures.value ∙ c.in_ok-pairs.ensures) c.loop-places-test.true in
    omega (arith, both.0, c.in_ok-counter.ensures.count, ap length (c.as_slice.ensures.value ∙ c.in_ok-predicates.ensures), length-map c.args.candidates.now (λ (x : Candidate). x.predicate))

pub look-scan-requires-clause-right_place : goal.look-scan-requires-clause-right_place
look-scan-requires-clause-right_place c =
    let both = within (length c.args.candidates.now) c.loop-places.places-index c.as_slice-places-items.result.now (c.as_slice-places-items.ensures.value ∙ c.in_ok-pairs.ensures) c.loop-places-test.true in
    omega (arith, both.1, c.in_ok-counter.ensures.count, ap length (c.as_slice.ensures.value ∙ c.in_ok-predicates.ensures), length-map c.args.candidates.now (λ (x : Candidate). x.predicate))

pub look-scan-requires-clause-left : goal.look-scan-requires-clause-left
look-scan-requires-clause-left c =
    let branches = c.args.collection.now.branches in
    let runs = runs_of c.args.collection.now.reports in
    let both = within (length c.args.candidates.now) c.loop-places.places-index c.as_slice-places-items.result.now (c.as_slice-places-items.ensures.value ∙ c.in_ok-pairs.ensures) c.loop-places-test.true in
    true-in-some branches runs (predicates_in branches) c.failing_runs-failing.result c.args.candidates.now (get_or c.as_slice-places-items.result.now c.loop-places.places-index (0, 0)).0 (record { predicate = 0; failing = 0; rating = None }) c.failing_runs-failing.ensures.value c.requires.candidates both.0

pub look-scan-requires-clause-right : goal.look-scan-requires-clause-right
look-scan-requires-clause-right c =
    let branches = c.args.collection.now.branches in
    let runs = runs_of c.args.collection.now.reports in
    let both = within (length c.args.candidates.now) c.loop-places.places-index c.as_slice-places-items.result.now (c.as_slice-places-items.ensures.value ∙ c.in_ok-pairs.ensures) c.loop-places-test.true in
    true-in-some branches runs (predicates_in branches) c.failing_runs-failing.result c.args.candidates.now (get_or c.as_slice-places-items.result.now c.loop-places.places-index (0, 0)).1 (record { predicate = 0; failing = 0; rating = None }) c.failing_runs-failing.ensures.value c.requires.candidates both.1

pub look-scan-requires-clause-tally : goal.look-scan-requires-clause-tally
look-scan-requires-clause-tally c =
    let branches = c.args.collection.now.branches in
    let runs = runs_of c.args.collection.now.reports in
    let list = c.args.candidates.now in
    let none : Candidate = record { predicate = 0; failing = 0; rating = None } in
    let p = get_or c.as_slice-places-items.result.now c.loop-places.places-index (0, 0) in
    let both = within (length list) c.loop-places.places-index c.as_slice-places-items.result.now (c.as_slice-places-items.ensures.value ∙ c.in_ok-pairs.ensures) c.loop-places-test.true in
    let ps : c.as_slice.result.now ≡ candidate_predicates list = c.as_slice.ensures.value ∙ c.in_ok-predicates.ensures in
    let long = ap length ps ∙ length-map list (λ (x : Candidate). x.predicate) in
    pair-sound branches runs (predicates_in branches) c.failing_runs-failing.result list _ p.0 p.1 none (omega (arith, length-map c.args.collection.now.reports run_of_report, c.reports_held-held.ensures)) c.failing_runs-failing.ensures.value c.requires.candidates both.0 both.1
    (pair-numbers c.args.tallies.now.branches branches runs c.in_ok-counter.counter list c.as_slice.result.now p.0 p.1 none c.requires.tallies.branches_are ps both.0 both.1 (c.in_ok-counter.ensures.numbers p.0 p.1 (omega (arith, both.0, long)) (omega (arith, both.1, long))))

pub look-scan-requires-clause-room : goal.look-scan-requires-clause-room
look-scan-requires-clause-room c =
    omega (arith, c.loop-places.invariant.all, c.loop-places-test.true, places-few c.args.candidates.now (length c.args.candidates.now) c.as_slice-places-items.result.now c.requires.candidates.few refl (c.as_slice-places-items.ensures.value ∙ c.in_ok-pairs.ensures))

pub loop-places-preserved : goal.loop-places-preserved
loop-places-preserved c =
    let branches = c.args.collection.now.branches in
    let runs = runs_of c.args.collection.now.reports in
    let one = recount branches runs in
    let pair = pair_recount branches runs in
    let f = c.failing_runs-failing.result in
    let list = c.args.candidates.now in
    let none : Candidate = record { predicate = 0; failing = 0; rating = None } in
    let i = c.loop-places.places-index in
    let places = c.as_slice-places-items.result.now in
    let are = c.as_slice-places-items.ensures.value ∙ c.in_ok-pairs.ensures in
    let p = get_or places i (0, 0) in
    let both = within (length list) i places are c.loop-places-test.true in
    let done = take i (pairs_of (candidate_predicates list)) in
    let ps : c.as_slice.result.now ≡ candidate_predicates list = c.as_slice.ensures.value ∙ c.in_ok-predicates.ensures in
    let long = ap length ps ∙ length-map list (λ (x : Candidate). x.predicate) in
    let numbers = pair-numbers c.args.tallies.now.branches branches runs c.in_ok-counter.counter list c.as_slice.result.now p.0 p.1 none c.requires.tallies.branches_are ps both.0 both.1 (c.in_ok-counter.ensures.numbers p.0 p.1 (omega (arith, both.0, long)) (omega (arith, both.1, long))) in
    let so_far = subst (λ k. IsScan one pair k done c.loop-places.scan) (sym c.failing_runs-failing.ensures.value) c.loop-places.invariant.scan in
    let next = c.look-scan.ensures.scan one pair done (c.requires.candidates.each p.0 none both.0).is.failing_is (c.requires.candidates.each p.1 none both.1).is.failing_is numbers so_far in record {
      scan = subst (λ (pairs : List (ℕ × ℕ)). IsScan one pair (failing_runs runs) pairs c.look-scan.result) (sym (done-more list (length list) i places none refl are c.loop-places-test.true))
          (subst (λ k. IsScan one pair k (done ++ ((get_or list p.0 none).predicate, (get_or list p.1 none).predicate) ∷ []) c.look-scan.result) c.failing_runs-failing.ensures.value next);
      all = omega (arith, c.look-scan.ensures.one_more, c.loop-places.invariant.all);
    }

pub returns : goal.returns
returns c =
    let branches = c.args.collection.now.branches in
    let runs = runs_of c.args.collection.now.reports in
    let list = c.args.candidates.now in
    let places = c.as_slice-places-items.result.now in
    let are = c.as_slice-places-items.ensures.value ∙ c.in_ok-pairs.ensures in
    let one = recount branches runs in
    let pair = pair_recount branches runs in
    let all = subst (λ (pairs : List (ℕ × ℕ)). IsScan one pair (failing_runs runs) pairs c.loop-places.scan) (done-all list (length list) c.loop-places.places-index places refl are c.loop-places-test.false) c.loop-places.invariant.scan in
    scan-found one pair (failing_runs runs) (pairs_of (candidate_predicates list)) c.loop-places.scan c.found.result all
    (omega (arith, c.found.ensures.pairs, c.len.ensures, c.as_slice-places-items.ensures.len, places-many list (length list) places refl are)) c.found.ensures.counted c.found.ensures.skipped c.found.ensures.best
