-- Falls: a predicate has one; and the first of those of the predicates looked at so far.
use Rattle.std.proofs.Common.{◌≡◌, ℕ, zero, suc, ◌+◌, ◌-◌, ◌*◌, ◌^◌, ◌<◌, ◌≤◌, ◌⊎◌, inl, inr, List, [], ◌∷◌, drop, get_or, length, take, sym, ap, subst, ◌∙◌, arith}
use Rattle.std.proofs.lemmas.Bool.{cases_lt}
use Rattle.std.proofs.lemmas.List.{take-append-drop}
use Rattle.fractions.specs.declared.tally.Tally.{Tally}
use Rattle.fractions.specs.Tally.{Passes}
use Rattle.affinity.specs.declared.neighbour.Neighbour.{Neighbour}
use Rattle.affinity.specs.Falls.{IsFall, IsWorth, Scores, share_of}
use Rattle.affinity.specs.Listing.{IsOffered}
use Rattle.affinity.specs.Near.{AreFirst, AreNearBy, IsNeighbour}
use Rattle.affinity.proofs.FirstLemmas.{FallsBelow, IsOneMore, first-more, first-none, first-same}

not-both : (a b : ℕ) → a < b → b ≤ a → ⊥
not-both a b less most = omega arith

pub passes-or : (t : Tally) → Passes t ⊎ (Passes t → ⊥)
passes-or t =
    elim (cases_lt (t.b * t.c) (t.a * t.d)) [
      | inl increases ↦ elim (cases_lt (38416 * (t.a * (t.c - t.a) * t.d ^ 3 + t.b * (t.d - t.b) * t.c ^ 3)) ((t.a * t.d - t.b * t.c) ^ 2 * t.c * t.d * 10000)) [
        | inl significant ↦ inl (record { increases = increases; significant = significant })
        | inr most ↦ inr (λ passes. not-both _ _ passes.significant most)
      ]
      | inr most ↦ inr (λ passes. not-both _ _ passes.increases most)
    ]

one-worth : (s : Scores) (q a b : ℕ) → IsWorth s q a → IsWorth s q b → a ≡ b
one-worth s q a b x y = elim (passes-or (s.numbers q)) [ inl passes ↦ x.passing passes ∙ sym (y.passing passes) | inr not ↦ x.otherwise not ∙ sym (y.otherwise not) ]

one-fall : (count p : ℕ) (whole left : Scores) (q a b : ℕ) → IsFall count p whole left q a → IsFall count p whole left q b → a ≡ b
one-fall count p whole left q a b x y = x.fall_is ∙ ap (λ n. share_of whole q - n) (one-worth left q x.rest y.rest x.rest_is y.rest_is) ∙ sym y.fall_is

-- the neighbours with a smaller number than this
abbrev pub IsSeen : ℕ → ℕ → Scores → Scores → ℕ → Neighbour → Type 0
IsSeen count p whole left k n = IsNeighbour count p whole left n × (n.predicate < k)

pub seen-none : (count p : ℕ) (whole left : Scores) → AreFirst 5 (IsSeen count p whole left 0) []
seen-none count p whole left = first-none 5 (IsSeen count p whole left 0) (λ n is. omega (arith, is.1))

neighbour-is : (n m : Neighbour) → n.predicate ≡ m.predicate → n.fall ≡ m.fall → n ≡ m
neighbour-is n m p f =
    let make : ℕ → ℕ → Neighbour = λ a b. record { predicate = a; fall = b } in
    ap (λ a. make a n.fall) p ∙ ap (make m.predicate) f

pub seen-one : (count p : ℕ) (whole left : Scores) (k : ℕ) (n : Neighbour) → n.predicate ≡ k → IsNeighbour count p whole left n → IsOneMore (IsSeen count p whole left k) (IsSeen count p whole left (k + 1)) n
seen-one count p whole left k n number is = record {
  is = (is, omega (arith, number));
  up = λ m seen. (seen.0, omega (arith, seen.1));
  down = λ m seen. elim (cases_lt m.predicate k) [
    | inl less ↦ inr (seen.0, less)
    | inr most ↦
        let same : m.predicate ≡ n.predicate = omega (arith, most, seen.1, number) in
        inl (neighbour-is m n same (one-fall count p whole left n.predicate m.fall n.fall (subst (λ q. IsFall count p whole left q m.fall) same seen.0.0) is.0))
  ];
  last = λ m seen. omega (arith, seen.1, number);
}

-- one that is no neighbour
pub seen-same : (count p : ℕ) (whole left : Scores) (k : ℕ) (rows : List Neighbour) → ((fall : ℕ) → IsFall count p whole left k fall → 0 < fall → ⊥) → AreFirst 5 (IsSeen count p whole left k) rows → AreFirst 5 (IsSeen count p whole left (k + 1)) rows
seen-same count p whole left k rows none first =
    first-same 5 (IsSeen count p whole left k) (IsSeen count p whole left (k + 1)) rows (λ m seen. (seen.0, omega (arith, seen.1)))
    (λ m seen. elim (cases_lt m.predicate k) [
      | inl less ↦ (seen.0, less)
      | inr most ↦
          let same : m.predicate ≡ k = omega (arith, most, seen.1) in
          absurd (none m.fall (subst (λ q. IsFall count p whole left q m.fall) same seen.0.0) seen.0.1)
    ])
    first

drop-first : (rows : List Neighbour) (place fall : ℕ) → ((d : Neighbour) → place < length rows → (get_or rows place d).fall < fall) → FallsBelow fall (drop place rows)
drop-first [] zero fall below = tt
drop-first [] (suc k) fall below = tt
drop-first (m ∷ more) zero fall below = below m (omega arith)
drop-first (m ∷ more) (suc k) fall below = drop-first more k fall (λ d less. below d (omega (arith, less)))

pub seen-more : (count p : ℕ) (whole left : Scores) (k : ℕ) (n : Neighbour) (old new : List Neighbour) → n.predicate ≡ k → IsNeighbour count p whole left n → IsOffered n old new → AreFirst 5 (IsSeen count p whole left k) old → AreFirst 5 (IsSeen count p whole left (k + 1)) new
seen-more count p whole left k n old new number is offered first =
    let S = IsSeen count p whole left k in
    let T = IsSeen count p whole left (k + 1) in
    let place = offered.place in
    let split = take-append-drop place old in
    subst (AreFirst 5 T) (sym offered.new_is)
    (first-more 5 S T (take place old) (drop place old) n (seen-one count p whole left k n number is) (subst (AreFirst 5 S) (sym split) first) offered.at.above (drop-first old place n.fall offered.at.below))

pub seen-all : (count p : ℕ) (whole left : Scores) (k : ℕ) (rows : List Neighbour) → k ≡ count → AreFirst 5 (IsSeen count p whole left k) rows → AreNearBy count p whole left rows
seen-all count p whole left k rows all first = first-same 5 (IsSeen count p whole left k) (IsNeighbour count p whole left) rows (λ n seen. seen.0) (λ n is. (is, omega (arith, is.0.is_one, all))) first
