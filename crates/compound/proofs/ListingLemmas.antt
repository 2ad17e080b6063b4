-- The list of candidates, one predicate on.
use Rattle.std.proofs.Common.{◌≡◌, ℕ, ◌+◌, ◌-◌, ◌*◌, ◌<◌, ◌≤◌, inl, inr, true, false, List, [], ◌∷◌, ◌++◌, length, get_or, take, drop, Option, None, Some, refl, sym, ap, subst, ◌∙◌, arith}
use Rattle.std.specs.Prelude.{All, AllPairs, Contains, IfSome}
use Rattle.std.proofs.lemmas.Bool.{cases_eq, cases_lt, false≢true, ltb-false, ltb-true, true≢false}
use Rattle.std.proofs.lemmas.List.{append-nil, drop_at, get_or-drop, get_or-map, get_or-take, get_or_default, length-append, length-drop, length-map, length-take, length-take-le, map-append, take-append-drop, take_at}
use Rattle.std.proofs.lemmas.List.Elements.{All-append, All-cons, All-contains, All-drop, All-head, All-map, All-take, All-weaker, Contains-append_cases, Contains-append_left, Contains-append_right}
use Rattle.std.proofs.lemmas.List.Kept.{AllPairs-cons}
use Rattle.base_lists.proofs.Every.{pairs_left}
use Rattle.fractions.specs.declared.fraction.Fraction.{Fraction}
use Rattle.fractions.specs.declared.tally.Tally.{Tally}
use Rattle.fractions.specs.Fraction.{IsAtMost, IsFraction}
use Rattle.fractions.specs.Tally.{importance_of}
use Rattle.compound.specs.declared.listing.Candidate.{Candidate}
use Rattle.compound.specs.Bound.{IsLess}
use Rattle.compound.specs.Candidates.{AreCandidates, ComesBefore, RanksAtLeast, candidate_limit}
use Rattle.compound.specs.Listing.{AreListed, IsAdded, IsBefore, IsCandidateBelow, IsListedOrPast, IsPlaceOf, IsRated, IsRatedCandidate, candidate_predicates, is_ranked_above, rates_above}
use Rattle.compound.proofs.OrderLemmas.{at-most-trans, importance-positive, less-at-most, not-both}
use Rattle.compound.proofs.PairLists.{pairs-across, pairs-append, pairs-right}

-- ---- the order

pub ranks-trans : (numbers : ℕ → Tally) (failing p q r : ℕ) → RanksAtLeast numbers failing p q → RanksAtLeast numbers failing q r → RanksAtLeast numbers failing p r
ranks-trans numbers failing p q r one other = record {
  passes = λ h. one.passes (other.passes h);
  importance = λ h. at-most-trans (importance_of (numbers r) failing) (importance_of (numbers q) failing) (importance_of (numbers p) failing)
      (importance-positive (numbers q) failing (other.passes h)) (other.importance h) (one.importance (other.passes h));
  failing_runs = λ none. omega (arith, one.failing_runs none, other.failing_runs (λ h. none (one.passes h)));
}

before-trans : (numbers : ℕ → Tally) (failing p q r : ℕ) → ComesBefore numbers failing p q → ComesBefore numbers failing q r → ComesBefore numbers failing p r
before-trans numbers failing p q r one other = record {
  ranks = ranks-trans numbers failing p q r one.ranks other.ranks;
  first = λ back. omega (arith, one.first (ranks-trans numbers failing q r p other.ranks back), other.first (ranks-trans numbers failing r p q back one.ranks));
}

above-by : (numbers : ℕ → Tally) (failing p q : ℕ) (f g : Option Fraction) → IsRated (numbers p) failing f → IsRated (numbers q) failing g → rates_above f g (numbers p).a (numbers q).a ≡ true
    → RanksAtLeast numbers failing p q × (RanksAtLeast numbers failing q p → ⊥)
above-by numbers failing p q (Some f) (Some g) rf rg is =
    let plain : IsLess g f = ltb-true (g.top * f.bottom) (f.top * g.bottom) is in
    let less : IsLess (importance_of (numbers q) failing) (importance_of (numbers p) failing) =
    subst (λ (x : Fraction). IsLess x (importance_of (numbers p) failing)) rg.is (subst (λ (x : Fraction). IsLess g x) rf.is plain) in (
      record {
        passes = λ _. rf.passes;
        importance = λ _. less-at-most (importance_of (numbers q) failing) (importance_of (numbers p) failing) less;
        failing_runs = λ none. absurd (none rf.passes);
      },
      (λ back. not-both (importance_of (numbers q) failing) (importance_of (numbers p) failing) less (back.importance rf.passes)),
    )
above-by numbers failing p q (Some f) None rf none is = (
  record { passes = λ h. absurd (none h); importance = λ h. absurd (none h); failing_runs = λ other. absurd (other rf.passes) },
  (λ back. none (back.passes rf.passes)),
)
above-by numbers failing p q None (Some g) none rg is = absurd (false≢true is)
above-by numbers failing p q None None one other is =
    let less : (numbers q).a < (numbers p).a = ltb-true (numbers q).a (numbers p).a is in (
      record { passes = λ h. absurd (other h); importance = λ h. absurd (other h); failing_runs = λ _. omega (arith, less) },
      (λ back. absurd (omega (arith, less, back.failing_runs other))),
    )

below-by : (numbers : ℕ → Tally) (failing p q : ℕ) (f g : Option Fraction) → IsRated (numbers p) failing f → IsRated (numbers q) failing g → rates_above f g (numbers p).a (numbers q).a ≡ false
    → RanksAtLeast numbers failing q p
below-by numbers failing p q (Some f) (Some g) rf rg is =
    let plain : IsAtMost f g = ltb-false (g.top * f.bottom) (f.top * g.bottom) is in
    let most : IsAtMost (importance_of (numbers p) failing) (importance_of (numbers q) failing) =
    subst (λ (x : Fraction). IsAtMost x (importance_of (numbers q) failing)) rf.is (subst (λ (x : Fraction). IsAtMost f x) rg.is plain) in
    record { passes = λ _. rg.passes; importance = λ _. most; failing_runs = λ none. absurd (none rg.passes) }
below-by numbers failing p q (Some f) None rf none is = absurd (true≢false is)
below-by numbers failing p q None (Some g) none rg is = record { passes = λ h. absurd (none h); importance = λ h. absurd (none h); failing_runs = λ other. absurd (other rg.passes) }
below-by numbers failing p q None None one other is =
    let most : (numbers p).a ≤ (numbers q).a = ltb-false (numbers q).a (numbers p).a is in
    record { passes = λ h. absurd (one h); importance = λ h. absurd (one h); failing_runs = λ _. most }

outranks-by : (numbers : ℕ → Tally) (failing : ℕ) (x y : Candidate) → IsRatedCandidate numbers failing x → IsRatedCandidate numbers failing y
    → is_ranked_above x y ≡ rates_above x.rating y.rating (numbers x.predicate).a (numbers y.predicate).a
outranks-by numbers failing x y one other =
    ap (λ a. rates_above x.rating y.rating a y.failing) one.failing_is ∙ ap (λ b. rates_above x.rating y.rating (numbers x.predicate).a b) other.failing_is

above : (numbers : ℕ → Tally) (failing : ℕ) (x y : Candidate) → IsRatedCandidate numbers failing x → IsRatedCandidate numbers failing y → is_ranked_above x y ≡ true → ComesBefore numbers failing x.predicate y.predicate
above numbers failing x y one other is =
    let both = above-by numbers failing x.predicate y.predicate x.rating y.rating one.rated other.rated (sym (outranks-by numbers failing x y one other) ∙ is) in
    record { ranks = both.0; first = λ back. absurd (both.1 back) }

below : (numbers : ℕ → Tally) (failing : ℕ) (x y : Candidate) → IsRatedCandidate numbers failing x → IsRatedCandidate numbers failing y → is_ranked_above x y ≡ false → RanksAtLeast numbers failing y.predicate x.predicate
below numbers failing x y one other is = below-by numbers failing x.predicate y.predicate x.rating y.rating one.rated other.rated (sym (outranks-by numbers failing x y one other) ∙ is)

-- ---- a further one in its place

pub behind-more : (list : List Candidate) (next : Candidate) (place : ℕ) (x : Candidate) → 0 < place → place ≤ length list → get_or list (place - 1) x ≡ x → is_ranked_above next x ≡ true
    → ((k : ℕ) (d : Candidate) → place ≤ k → k < length list → is_ranked_above next (get_or list k d) ≡ true)
    → (k : ℕ) (d : Candidate) → place - 1 ≤ k → k < length list → is_ranked_above next (get_or list k d) ≡ true
behind-more list next place x some within at ranks behind k d from inside = elim (cases_eq k (place - 1)) [
  | inl same ↦ ap (λ i. is_ranked_above next (get_or list i d)) same ∙ ap (is_ranked_above next) (get_or_default list (place - 1) d x (omega (arith, same, inside)) ∙ at) ∙ ranks
  | inr other ↦ behind k d (omega (arith, from, other, some)) inside
]

-- those before the place come before it
front-before : (numbers : ℕ → Tally) (count failing : ℕ) (list : List Candidate) (next : Candidate) (place : ℕ) → All (IsCandidateBelow numbers count failing) list → AllPairs (IsBefore numbers failing) list
    → IsRatedCandidate numbers failing next → next.predicate ≡ count → IsPlaceOf list next place → All (λ x. IsBefore numbers failing x next) (take place list)
front-before numbers count failing list next place each ordered is last at = λ k d inside.
    let less : k < place = omega (arith, inside, length-take-le place list at.within) in
    let x = get_or list k d in
    let before = get_or list (place - 1) d in
    let end_ranks : RanksAtLeast numbers failing before.predicate next.predicate =
    below numbers failing next before is (each (place - 1) d (omega (arith, less, at.within))).is (at.front d (omega (arith, less))) in
    let ranks : RanksAtLeast numbers failing x.predicate next.predicate = elim (cases_eq k (place - 1)) [
      | inl same ↦ subst (λ i. RanksAtLeast numbers failing (get_or list i d).predicate next.predicate) (sym same) end_ranks
      | inr other ↦ ranks-trans numbers failing x.predicate before.predicate next.predicate (ordered k (place - 1) d (omega (arith, less, other)) (omega (arith, less, at.within))).ranks end_ranks
    ] in
    let one : IsBefore numbers failing x next = record { ranks = ranks; first = λ _. omega (arith, last, (each k d (omega (arith, less, at.within))).below) } in
    subst (λ (y : Candidate). IsBefore numbers failing y next) (sym (get_or-take place list k d less)) one

-- and it comes before those behind
behind-after : (numbers : ℕ → Tally) (count failing : ℕ) (list : List Candidate) (next : Candidate) (place : ℕ) → All (IsCandidateBelow numbers count failing) list
    → IsRatedCandidate numbers failing next → IsPlaceOf list next place → All (IsBefore numbers failing next) (drop place list)
behind-after numbers count failing list next place each is at = λ k d inside.
    let within : place + k < length list = omega (arith, inside, length-drop place list) in
    subst (IsBefore numbers failing next) (sym (get_or-drop place list k d))
    (above numbers failing next (get_or list (place + k) d) is (each (place + k) d within).is (at.behind (place + k) d (omega arith) within))

ordered-full : (numbers : ℕ → Tally) (failing : ℕ) (front back : List Candidate) (next : Candidate) → AllPairs (IsBefore numbers failing) (front ++ back)
    → All (λ x. IsBefore numbers failing x next) front → All (IsBefore numbers failing next) back → AllPairs (IsBefore numbers failing) (front ++ next ∷ back)
ordered-full numbers failing front back next ordered in_front behind =
    let R = IsBefore numbers failing in
    let across = pairs-across R front back ordered in
    pairs-append R front (next ∷ back) (pairs_left R front back ordered) (AllPairs-cons R next back behind (pairs-right R front back ordered))
    (λ k d inside. All-cons (R (get_or front k d)) next back (in_front k d inside) (across k d inside))

-- one of the full list is kept, or comes after a full list
kept-or-past : (numbers : ℕ → Tally) (failing : ℕ) (kept left : List Candidate) (q : ℕ) → AllPairs (IsBefore numbers failing) (kept ++ left) → (0 < length left → length kept ≡ candidate_limit)
    → Contains (candidate_predicates (kept ++ left)) q → IsListedOrPast numbers failing kept q
kept-or-past numbers failing kept left q ordered full has =
    elim (Contains-append_cases (candidate_predicates kept) (candidate_predicates left) q (subst (λ (xs : List ℕ). Contains xs q) (map-append (λ (c : Candidate). c.predicate) kept left) has)) [
      | inl here ↦ inl here
      | inr there ↦ inr (
        full (omega (arith, there.1, length-map left (λ (c : Candidate). c.predicate))),
        All-weaker (λ x. All (IsBefore numbers failing x) left) (λ (x : Candidate). ComesBefore numbers failing x.predicate q)
            (λ x before. All-contains (λ p. ComesBefore numbers failing x.predicate p) (candidate_predicates left) q (All-map (λ p. ComesBefore numbers failing x.predicate p) (λ (c : Candidate). c.predicate) left before) there)
            kept (pairs-across (IsBefore numbers failing) kept left ordered),
      )
    ]

-- what came after a full list comes after the new one
past-still : (numbers : ℕ → Tally) (failing : ℕ) (front back : List Candidate) (next : Candidate) (q : ℕ) → length (front ++ back) ≡ candidate_limit
    → All (λ (x : Candidate). ComesBefore numbers failing x.predicate q) (front ++ back) → All (IsBefore numbers failing next) back
    → All (λ (x : Candidate). ComesBefore numbers failing x.predicate q) (take candidate_limit (front ++ next ∷ back))
past-still numbers failing front [] next q full past behind =
    let P : Candidate → Type 0 = λ (x : Candidate). ComesBefore numbers failing x.predicate q in
    subst (All P) (append-nil front ∙ sym (take_at front (next ∷ []) candidate_limit (sym (ap length (append-nil front)) ∙ full))) past
past-still numbers failing front (y ∷ more) next q full past behind =
    let P : Candidate → Type 0 = λ (x : Candidate). ComesBefore numbers failing x.predicate q in
    let behind_front : All P (y ∷ more) = subst (All P) (drop_at front (y ∷ more) (length front) refl) (All-drop P (length front) (front ++ y ∷ more) past) in
    let before_back : All P front = subst (All P) (take_at front (y ∷ more) (length front) refl) (All-take P (length front) (front ++ y ∷ more) past) in
    let this : P next = before-trans numbers failing next.predicate y.predicate q (All-head (IsBefore numbers failing next) y more behind) (All-head P y more behind_front) in
    All-take P candidate_limit (front ++ next ∷ y ∷ more) (All-append P front (next ∷ y ∷ more) before_back (All-cons P next (y ∷ more) this behind_front))

one-more : (numbers : ℕ → Tally) (count failing : ℕ) (c : Candidate) → IsCandidateBelow numbers count failing c → IsCandidateBelow numbers (count + 1) failing c
one-more numbers count failing c one = record { below = omega (arith, one.below); some = one.some; is = one.is }

-- the list parted at the place
listed-parted : (numbers : ℕ → Tally) (count failing : ℕ) (front back : List Candidate) (next : Candidate) → AreListed numbers count failing (front ++ back)
    → IsRatedCandidate numbers failing next → next.predicate ≡ count → 1 ≤ next.failing
    → All (λ x. IsBefore numbers failing x next) front → All (IsBefore numbers failing next) back
    → AreListed numbers (count + 1) failing (take candidate_limit (front ++ next ∷ back))
listed-parted numbers count failing front back next listed is last some in_front behind =
    let full = front ++ next ∷ back in
    let kept = take candidate_limit full in
    let left = drop candidate_limit full in
    let parted : kept ++ left ≡ full = take-append-drop candidate_limit full in
    let one : IsCandidateBelow numbers (count + 1) failing next = record { below = omega (arith, last); some = some; is = is } in
    let each : All (IsCandidateBelow numbers (count + 1) failing) (front ++ back) = All-weaker (IsCandidateBelow numbers count failing) (IsCandidateBelow numbers (count + 1) failing) (one-more numbers count failing) (front ++ back) listed.each in
    let before_back = subst (All (IsCandidateBelow numbers (count + 1) failing)) (take_at front back (length front) refl) (All-take (IsCandidateBelow numbers (count + 1) failing) (length front) (front ++ back) each) in
    let behind_front = subst (All (IsCandidateBelow numbers (count + 1) failing)) (drop_at front back (length front) refl) (All-drop (IsCandidateBelow numbers (count + 1) failing) (length front) (front ++ back) each) in
    let ordered = ordered-full numbers failing front back next listed.ordered in_front behind in
    let ordered_parts = subst (AllPairs (IsBefore numbers failing)) (sym parted) ordered in
    let filled : 0 < length left → length kept ≡ candidate_limit = λ h. omega (arith, h, length-drop candidate_limit full, length-take candidate_limit full) in
    let all_of_full : (q : ℕ) → Contains (candidate_predicates full) q → IsListedOrPast numbers failing kept q =
    λ q has. kept-or-past numbers failing kept left q ordered_parts filled (subst (λ (xs : List Candidate). Contains (candidate_predicates xs) q) (sym parted) has) in record {
      each = All-take (IsCandidateBelow numbers (count + 1) failing) candidate_limit full (All-append (IsCandidateBelow numbers (count + 1) failing) front (next ∷ back) before_back (All-cons (IsCandidateBelow numbers (count + 1) failing) next back one behind_front));
      ordered = pairs_left (IsBefore numbers failing) kept left ordered_parts;
      few = omega (arith, length-take candidate_limit full);
      complete = λ q less true_once. elim (cases_lt q count) [
        | inl before ↦ elim (listed.complete q before true_once) [
          | inl has ↦ all_of_full q (subst (λ (xs : List ℕ). Contains xs q) (sym (map-append (λ (c : Candidate). c.predicate) front (next ∷ back))) (around q (candidate_predicates front) (candidate_predicates back) next.predicate (subst (λ (xs : List ℕ). Contains xs q) (map-append (λ (c : Candidate). c.predicate) front back) has)))
          | inr past ↦ inr (
            omega (arith, past.0, length-take candidate_limit full, length-append front (next ∷ back), length-append front back),
            past-still numbers failing front back next q past.0 past.1 behind,
          )
        ]
        | inr here ↦
            let this : next.predicate ≡ q = omega (arith, last, here, less) in
            all_of_full q (subst (λ (xs : List ℕ). Contains xs q) (sym (map-append (λ (c : Candidate). c.predicate) front (next ∷ back)))
            (Contains-append_right (candidate_predicates front) (next.predicate ∷ candidate_predicates back) q (0, omega arith, this)))
      ];
    }
  where
    around : (q : ℕ) (xs ys : List ℕ) (p : ℕ) → Contains (xs ++ ys) q → Contains (xs ++ p ∷ ys) q
    around q xs ys p has = elim (Contains-append_cases xs ys q has) [
      | inl a ↦ Contains-append_left xs (p ∷ ys) q a
      | inr b ↦ Contains-append_right xs (p ∷ ys) q (Contains-append_right (p ∷ []) ys q b)
    ]

pub listed-more : (numbers : ℕ → Tally) (count failing : ℕ) (list new : List Candidate) (next : Candidate) → AreListed numbers count failing list
    → IsRatedCandidate numbers failing next → next.predicate ≡ count → 1 ≤ next.failing → IsAdded list next new → AreListed numbers (count + 1) failing new
listed-more numbers count failing list new next listed is last some added =
    let place = added.place in
    let parts : take place list ++ drop place list ≡ list = take-append-drop place list in
    subst (AreListed numbers (count + 1) failing) (sym added.new_is)
    (listed-parted numbers count failing (take place list) (drop place list) next (subst (AreListed numbers count failing) (sym parts) listed) is last some
    (front-before numbers count failing list next place listed.each listed.ordered is last added.is_place) (behind-after numbers count failing list next place listed.each is added.is_place))

pub listed-skip : (numbers : ℕ → Tally) (count failing : ℕ) (list : List Candidate) → (numbers count).a ≡ 0 → AreListed numbers count failing list → AreListed numbers (count + 1) failing list
listed-skip numbers count failing list none listed = record {
  each = All-weaker (IsCandidateBelow numbers count failing) (IsCandidateBelow numbers (count + 1) failing) (one-more numbers count failing) list listed.each;
  ordered = listed.ordered;
  few = listed.few;
  complete = λ q less true_once. elim (cases_lt q count) [
    | inl before ↦ listed.complete q before true_once
    | inr here ↦
        let this : q ≡ count = omega (arith, here, less) in
        absurd (omega (arith, none, true_once, ap (λ p. (numbers p).a) this))
  ];
}

-- what a list asks of its ratings
pub rated-fraction : (tally : Tally) (failing : ℕ) (rating : Option Fraction) → IsRated tally failing rating → IfSome rating IsFraction
rated-fraction tally failing None none = tt
rated-fraction tally failing (Some f) rated = rated.fraction

pub fractions-listed : (numbers : ℕ → Tally) (count failing : ℕ) (list : List Candidate) → AreListed numbers count failing list → All (λ (c : Candidate). IfSome c.rating IsFraction) list
fractions-listed numbers count failing list listed =
    All-weaker (IsCandidateBelow numbers count failing) (λ (c : Candidate). IfSome c.rating IsFraction) (λ c one. rated-fraction (numbers c.predicate) failing c.rating one.is.rated) list listed.each

-- ---- the listed are the candidates

pub listed-candidates : (numbers : ℕ → Tally) (count failing : ℕ) (list : List Candidate) → AreListed numbers count failing list → AreCandidates numbers count failing (candidate_predicates list)
listed-candidates numbers count failing list listed =
    let of : Candidate → ℕ = λ (c : Candidate). c.predicate in
    let d : Candidate = record { predicate = 0; failing = 0; rating = None } in
    let long = length-map list of in record {
      each = All-map (λ p. (p < count) × (1 ≤ (numbers p).a)) of list
          (All-weaker (IsCandidateBelow numbers count failing) (λ (c : Candidate). (c.predicate < count) × (1 ≤ (numbers c.predicate).a)) (λ c one. (one.below, omega (arith, one.some, one.is.failing_is))) list listed.each);
      ordered = λ i j e less inside.
          let within : j < length list = omega (arith, inside, long) in
          subst (λ p. ComesBefore numbers failing p (get_or (candidate_predicates list) j e)) (sym (get_or-map of list i d e (omega (arith, within, less))))
          (subst (λ q. ComesBefore numbers failing (get_or list i d).predicate q) (sym (get_or-map of list j d e within)) (listed.ordered i j d less within));
      few = omega (arith, long, listed.few);
      complete = λ q less true_once. elim (listed.complete q less true_once) [
        | inl has ↦ inl has
        | inr past ↦ inr (long ∙ past.0, All-map (λ p. ComesBefore numbers failing p q) of list past.1)
      ];
    }
