-- What the scan knows of the two candidates that it looks at.
use Rattle.std.proofs.Common.{◌≡◌, ℕ, ◌+◌, ◌<◌, ◌≤◌, Bool, List, [], ◌∷◌, ◌++◌, length, get_or, take, Some, refl, sym, ap, subst, ◌∙◌, arith}
use Rattle.std.specs.Prelude.{All, slice_get}
use Rattle.std.specs.List.{range_with_len}
use Rattle.std.proofs.lemmas.List.{get_or-map, get_or_default, length-map, take_all}
use Rattle.std.proofs.lemmas.List.Elements.{All-map, All-weaker}
use Rattle.std.proofs.lemmas.Option.{same_Some}
use Rattle.fractions.specs.declared.tally.Tally.{Tally}
use Rattle.fractions.specs.Tally.{IsTally}
use Rattle.elimination_tallies.specs.declared.labelled.LabelledRun.{LabelledRun}
use Rattle.elimination_tallies.specs.Predicates.{predicates_in}
use Rattle.elimination_tallies.specs.Recount.{failing_runs, recount}
use Rattle.elimination_tallies.specs.Tallies.{AreRecounts, Tallies}
use Rattle.compound_counts.specs.Numbers.{PairFacts, numbers_at}
use Rattle.compound_counts.specs.Truth.{pair_recount}
use Rattle.compound.specs.declared.listing.Candidate.{Candidate}
use Rattle.compound.specs.Listing.{AreListed, IsCandidateBelow, candidate_predicates}
use Rattle.compound.specs.Pairs.{pairs_of}
use Rattle.compound.specs.Scanning.{IsPairTally}
use Rattle.compound.proofs.PlaceLemmas.{pairs-few, pairs-length, pairs-step, pairs-within}
use Rattle.compound.proofs.TallyLemmas.{pair-in-left, pair-in-right, pair-observed, pair-tally, recount-true}

-- the numbers that a table has of a predicate
pub counted : (branches : List Bool) (runs : List LabelledRun) (t : Tallies) (p : ℕ) (tally : Tally) → AreRecounts branches runs t → p < predicates_in t.branches → slice_get t.tallies p ≡ Some tally → tally ≡ recount branches runs p
counted branches runs t p tally are below is =
    same_Some tally (recount branches runs p) (sym is ∙ are.numbers p (omega (arith, below, ap predicates_in are.branches_are)))

-- the predicates of the listed
pub listed-below : (numbers : ℕ → Tally) (count failing : ℕ) (list : List Candidate) → AreListed numbers count failing list → All (λ p. p < count) (candidate_predicates list)
listed-below numbers count failing list listed =
    All-map (λ p. p < count) (λ (c : Candidate). c.predicate) list (All-weaker (IsCandidateBelow numbers count failing) (λ (c : Candidate). c.predicate < count) (λ c one. one.below) list listed.each)

pub predicate-at : (list : List Candidate) (ps : List ℕ) (k : ℕ) (d : Candidate) → ps ≡ candidate_predicates list → k < length list → get_or ps k 0 ≡ (get_or list k d).predicate
predicate-at list ps k d is inside = ap (λ (xs : List ℕ). get_or xs k 0) is ∙ get_or-map (λ (c : Candidate). c.predicate) list k d 0 inside

-- two places of a pair
pub within : (n i : ℕ) (places : List (ℕ × ℕ)) → places ≡ pairs_of (range_with_len 0 n) → i < length places → ((get_or places i (0, 0)).0 < n) × ((get_or places i (0, 0)).1 < n)
within n i places are inside = subst (All (λ (p : ℕ × ℕ). (p.0 < n) × (p.1 < n))) (sym are) (pairs-within n) i (0, 0) inside

-- a listed candidate was true in some failing runs
pub true-in-some : (branches : List Bool) (runs : List LabelledRun) (count f : ℕ) (list : List Candidate) (k : ℕ) (d : Candidate) → f ≡ failing_runs runs → AreListed (recount branches runs) count (failing_runs runs) list → k < length list
    → (1 ≤ (get_or list k d).failing) × ((get_or list k d).failing ≤ f)
true-in-some branches runs count f list k d is listed inside =
    let one = listed.each k d inside in
    (one.some, omega (arith, is, one.is.failing_is, recount-true branches runs (get_or list k d).predicate))

-- the numbers of the pair of two candidates
pub pair-numbers : (own branches : List Bool) (runs : List LabelledRun) (facts : PairFacts) (list : List Candidate) (ps : List ℕ) (i j : ℕ) (d : Candidate) → own ≡ branches → ps ≡ candidate_predicates list → i < length list → j < length list
    → numbers_at facts i j ≡ pair_recount own runs (get_or ps i 0) (get_or ps j 0) → numbers_at facts i j ≡ pair_recount branches runs (get_or list i d).predicate (get_or list j d).predicate
pair-numbers own branches runs facts list ps i j d same is one other numbers =
    numbers ∙ ap (λ (bs : List Bool). pair_recount bs runs (get_or ps i 0) (get_or ps j 0)) same ∙ ap (λ p. pair_recount branches runs p (get_or ps j 0)) (predicate-at list ps i d is one)
    ∙ ap (pair_recount branches runs (get_or list i d).predicate) (predicate-at list ps j d is other)

pub pair-sound : (branches : List Bool) (runs : List LabelledRun) (count f : ℕ) (list : List Candidate) (tally : Tally) (i j : ℕ) (d : Candidate) → length runs ≤ 100000 → f ≡ failing_runs runs → AreListed (recount branches runs) count (failing_runs runs) list
    → i < length list → j < length list → tally ≡ pair_recount branches runs (get_or list i d).predicate (get_or list j d).predicate → IsPairTally tally (get_or list i d).failing (get_or list j d).failing f
pair-sound branches runs count f list tally i j d few is listed one other numbers =
    let p = (get_or list i d).predicate in
    let q = (get_or list j d).predicate in record {
      is_tally = subst IsTally (sym numbers) (pair-tally branches runs p q few);
      observed = omega (arith, ap (λ (t : Tally). t.c) numbers, pair-observed branches runs p q, is);
      in_left = omega (arith, ap (λ (t : Tally). t.a) numbers, pair-in-left branches runs p q, (listed.each i d one).is.failing_is);
      in_right = omega (arith, ap (λ (t : Tally). t.a) numbers, pair-in-right branches runs p q, (listed.each j d other).is.failing_is);
    }

-- the pairs that are done, one on
pub done-more : (list : List Candidate) (n i : ℕ) (places : List (ℕ × ℕ)) (d : Candidate) → n ≡ length list → places ≡ pairs_of (range_with_len 0 n) → i < length places
    → take (i + 1) (pairs_of (candidate_predicates list)) ≡ take i (pairs_of (candidate_predicates list)) ++ ((get_or list (get_or places i (0, 0)).0 d).predicate, (get_or list (get_or places i (0, 0)).1 d).predicate) ∷ []
done-more list n i places d as_many are inside =
    let ps = candidate_predicates list in
    let p = get_or places i (0, 0) in
    let both = within n i places are inside in
    let beside : ℕ → ℕ → List (ℕ × ℕ) = λ (x y : ℕ). take i (pairs_of ps) ++ (x, y) ∷ [] in
    pairs-step ps n i places p (as_many ∙ sym (length-map list (λ (c : Candidate). c.predicate))) are inside (get_or_default places i p (0, 0) inside)
    ∙ ap (λ x. beside x (get_or ps p.1 0)) (predicate-at list ps p.0 d refl (omega (arith, both.0, as_many))) ∙ ap (beside (get_or list p.0 d).predicate) (predicate-at list ps p.1 d refl (omega (arith, both.1, as_many)))

pub done-all : (list : List Candidate) (n i : ℕ) (places : List (ℕ × ℕ)) → n ≡ length list → places ≡ pairs_of (range_with_len 0 n) → length places ≤ i → take i (pairs_of (candidate_predicates list)) ≡ pairs_of (candidate_predicates list)
done-all list n i places as_many are most =
    take_all i (pairs_of (candidate_predicates list)) (omega (arith, most, pairs-length (candidate_predicates list) n places (as_many ∙ sym (length-map list (λ (c : Candidate). c.predicate))) are))

pub places-many : (list : List Candidate) (n : ℕ) (places : List (ℕ × ℕ)) → n ≡ length list → places ≡ pairs_of (range_with_len 0 n) → length places ≡ length (pairs_of (candidate_predicates list))
places-many list n places as_many are = pairs-length (candidate_predicates list) n places (as_many ∙ sym (length-map list (λ (c : Candidate). c.predicate))) are

pub places-few : (list : List Candidate) (n : ℕ) (places : List (ℕ × ℕ)) → length list ≤ 1000 → n ≡ length list → places ≡ pairs_of (range_with_len 0 n) → length places ≤ 500000
places-few list n places few as_many are =
    omega (arith, places-many list n places as_many are, pairs-few (candidate_predicates list) (omega (arith, few, length-map list (λ (c : Candidate). c.predicate))))
