-- There is a list of the predicates near another one.
use Rattle.std.proofs.Common.{◌≡◌, ℕ, zero, suc, ◌+◌, ◌-◌, ◌<◌, ◌≤◌, ◌⊎◌, inl, inr, List, [], ◌∷◌, take, refl, ap, subst, arith}
use Rattle.std.specs.List.{insert}
use Rattle.std.proofs.lemmas.Bool.{cases_eq, cases_lt}
use Rattle.std.proofs.lemmas.List.Elements.{All-cons, All-nil}
use Rattle.cbi_base.specs.declared.policy.Policy.TheVariants.{All as Every}
use Rattle.fractions.specs.Tally.{Passes}
use Rattle.elimination_tallies.specs.Predicates.{predicates_in}
use Rattle.elimination.specs.Elimination.{runs_after_leader}
use Rattle.affinity.specs.declared.neighbour.Neighbour.{Neighbour}
use Rattle.affinity.specs.Falls.{IsFall, IsWorth, Scores, scores_over, share_of}
use Rattle.affinity.specs.Listing.{IsPlaceOf}
use Rattle.affinity.specs.Near.{AreFirst, AreNearBy, IsNeighbour}
use Rattle.affinity.proofs.FallLemmas.{IsSeen, passes-or, seen-all, seen-more, seen-none, seen-same}
use Rattle.affinity.proofs.NearLemmas.{one-near}
use Rattle.ranking_laws.specs.Laws.{PredicatesHaveOneNearList, ThereIsOne}

-- what of an importance counts
one-worth : (s : Scores) (q : ℕ) → ThereIsOne (IsWorth s q)
one-worth s q =
    elim (passes-or (s.numbers q)) [
      | inl passes ↦ record { one = share_of s q; is = record { passing = λ _. refl; otherwise = λ none. absurd (none passes) }; only = λ other is. is.passing passes }
      | inr not ↦ record { one = 0; is = record { passing = λ passes. absurd (not passes); otherwise = λ _. refl }; only = λ other is. is.otherwise not }
    ]

-- the place of a fall
placed : (fall : ℕ) (rows : List Neighbour) → (place : ℕ) × IsPlaceOf fall rows place
placed fall [] = (0, record { within = omega arith; above = All-nil (λ (n : Neighbour). fall ≤ n.fall); below = λ d less. absurd (omega (arith, less)) })
placed fall (m ∷ more) =
    elim (cases_lt m.fall fall) [
      | inl lower ↦ (0, record { within = omega arith; above = All-nil (λ (n : Neighbour). fall ≤ n.fall); below = λ d less. lower })
      | inr most ↦
          let rest = placed fall more in (
            suc rest.0,
            record {
              within = omega (arith, rest.1.within);
              above = All-cons (λ (n : Neighbour). fall ≤ n.fall) m (take rest.0 more) most rest.1.above;
              below = λ d less. rest.1.below d (omega (arith, less));
            },
          )
    ]

-- a predicate falls, or it doesn't
abbrev FallsOrNot : ℕ → ℕ → Scores → Scores → ℕ → Type 0
FallsOrNot count p whole left k =
    ((n : Neighbour) × (n.predicate ≡ k) × IsNeighbour count p whole left n) ⊎ ((fall : ℕ) → IsFall count p whole left k fall → 0 < fall → ⊥)

falls : (count p : ℕ) (whole left : Scores) (k : ℕ) → k < count → (k ≡ p) ⊎ (k ≡ p → ⊥) → Passes (whole.numbers k) ⊎ (Passes (whole.numbers k) → ⊥) → FallsOrNot count p whole left k
falls count p whole left k less (inl same) passes = inr (λ fall is some. is.other same)
falls count p whole left k less (inr other) (inr not) = inr (λ fall is some. not is.passes)
falls count p whole left k less (inr other) (inl passes) =
    let rest = one-worth left k in
    elim (cases_lt 0 (share_of whole k - rest.one)) [
      | inl some ↦ inl (
        record { predicate = k; fall = share_of whole k - rest.one },
        refl,
        (record { is_one = less; other = other; passes = passes; rest = rest.one; rest_is = rest.is; fall_is = refl }, some),
      )
      | inr none ↦ inr (λ fall is some. omega (arith, none, some, is.fall_is, ap (λ n. share_of whole k - n) (rest.only is.rest is.rest_is)))
    ]

abbrev Near : ℕ → ℕ → Scores → Scores → ℕ → Type 0
Near count p whole left k = (rows : List Neighbour) × AreFirst 5 (IsSeen count p whole left k) rows

-- one predicate on
one-on : (count p : ℕ) (whole left : Scores) (k : ℕ) → FallsOrNot count p whole left k → Near count p whole left k → Near count p whole left (k + 1)
one-on count p whole left k (inr none) near = (near.0, seen-same count p whole left k near.0 none near.1)
one-on count p whole left k (inl is) near =
    let place = placed is.0.fall near.0 in
    let new = take 5 (insert near.0 place.0 is.0) in
    (new, seen-more count p whole left k is.0 near.0 new is.1 is.2 (record { place = place.0; at = place.1; new_is = refl }) near.1)

nearest : (count p : ℕ) (whole left : Scores) (k : ℕ) → k ≤ count → Near count p whole left k
nearest count p whole left zero few = ([], seen-none count p whole left)
nearest count p whole left (suc k) few =
    let next : k + 1 ≡ suc k = omega arith in
    subst (Near count p whole left) next (one-on count p whole left k (falls count p whole left k (omega (arith, few)) (cases_eq k p) (passes-or (whole.numbers k))) (nearest count p whole left k (omega (arith, few))))

pub predicates_have_one_near_list : PredicatesHaveOneNearList
predicates_have_one_near_list branches runs p =
    let count = predicates_in branches in
    let whole = scores_over branches runs in
    let left = scores_over branches (runs_after_leader branches Every p runs) in
    let near = nearest count p whole left count (omega arith) in
    let is : AreNearBy count p whole left near.0 = seen-all count p whole left count near.0 refl near.1 in
    record { one = near.0; is = is; only = λ other are. one-near branches runs p other near.0 are is }
