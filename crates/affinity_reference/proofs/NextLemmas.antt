-- The first so many of a kind, one after another.
use Rattle.std.proofs.Common.{◌≡◌, ℕ, ◌+◌, ◌<◌, ◌≤◌, inl, inr, Bool, true, false, cond, List, [], ◌∷◌, ◌++◌, length, Option, None, Some, refl, sym, subst, ◌∙◌, arith}
use Rattle.std.specs.Prelude.{All, Contains, nat_lt}
use Rattle.std.proofs.lemmas.Bool.{cases_lt, false≢true}
use Rattle.std.proofs.lemmas.List.{length_push}
use Rattle.std.proofs.lemmas.List.Elements.{All-head, All-nil, All-push, All-tail, Contains-append_left, Contains-push}
use Rattle.base_lists.proofs.Numbers.{is_less, not_less}
use Rattle.affinity.specs.declared.neighbour.Neighbour.{Neighbour}
use Rattle.cbi_base.specs.declared.policy.Policy.TheVariants.{All as Every}
use Rattle.elimination_tallies.specs.declared.labelled.LabelledRun.{LabelledRun}
use Rattle.elimination_tallies.specs.Predicates.{predicates_in}
use Rattle.elimination.specs.Elimination.{runs_after_leader}
use Rattle.affinity.specs.Falls.{IsFall, Scores, scores_over}
use Rattle.affinity.specs.Near.{AreFirst, AreInOrder, AreNear, AreNearBy, IsNeighbour, StandsBefore}
use Rattle.affinity.proofs.FallLemmas.{IsSeen, seen-one}
use Rattle.affinity.proofs.FirstLemmas.{IsOneMore, before-trans, stands}
use Rattle.affinity_reference.specs.Choosing.{IsBehind, IsNext, better_of}

-- none yet
pub firsts-none : (S : Neighbour → Type 0) → AreFirst 0 S []
firsts-none S = record { few = omega arith; each = All-nil S; order = tt; others = λ n is. inr (refl, All-nil (λ m. StandsBefore m n)) }

ordered-push : (rows : List Neighbour) (n : Neighbour) → AreInOrder rows → All (λ m. StandsBefore m n) rows → AreInOrder (rows ++ n ∷ [])
ordered-push [] n order behind = (All-nil (StandsBefore n), tt)
ordered-push (x ∷ xs) n order behind = (All-push (StandsBefore x) xs n order.0 (All-head (λ m. StandsBefore m n) x xs behind), ordered-push xs n order.1 (All-tail (λ m. StandsBefore m n) x xs behind))

-- one more
pub firsts-more : (k : ℕ) (S : Neighbour → Type 0) (rows : List Neighbour) (next : Neighbour) → length rows ≡ k → AreFirst k S rows → IsNext S rows (Some next) → AreFirst (k + 1) S (rows ++ next ∷ [])
firsts-more k S rows next many first is = record {
  few = omega (arith, many, length_push rows next);
  each = All-push S rows next first.each is.0.is;
  order = ordered-push rows next first.order is.0.behind;
  others = λ n one. elim (first.others n one) [
    | inl has ↦ inl (Contains-append_left rows (next ∷ []) n has)
    | inr full ↦ elim (is.1 n (record { is = one; behind = full.1 })) [
      | inl same ↦ inl (subst (Contains (rows ++ next ∷ [])) (sym same) (Contains-push rows next))
      | inr before ↦ inr (omega (arith, many, length_push rows next), All-push (λ m. StandsBefore m n) rows next full.1 before)
    ]
  ];
}

-- no more
pub firsts-end : (k most : ℕ) (S : Neighbour → Type 0) (rows : List Neighbour) → k ≤ most → AreFirst k S rows → IsNext S rows None → AreFirst most S rows
firsts-end k most S rows fit first none = record {
  few = omega (arith, fit, first.few);
  each = first.each;
  order = first.order;
  others = λ n one. elim (first.others n one) [ inl has ↦ inl has | inr full ↦ absurd (none n (record { is = one; behind = full.1 })) ];
}

-- the next one of those with a smaller number than k
behind-up : (S T : Neighbour → Type 0) (rows : List Neighbour) (n : Neighbour) → (S n → T n) → IsBehind S rows n → IsBehind T rows n
behind-up S T rows n up is = record { is = up is.is; behind = is.behind }

pub next-none : (S : Neighbour → Type 0) (rows : List Neighbour) → ((n : Neighbour) → S n → ⊥) → IsNext S rows None
next-none S rows none n is = none n is.is

-- one that doesn't stand behind the rows, or is none of the kind, changes nothing
pub next-same : (S T : Neighbour → Type 0) (rows : List Neighbour) (best : Option Neighbour) → ((n : Neighbour) → S n → T n) → ((n : Neighbour) → IsBehind T rows n → S n) → IsNext S rows best → IsNext T rows best
next-same S T rows None up down is = λ n other. is n (record { is = down n other; behind = other.behind })
next-same S T rows (Some b) up down is = (behind-up S T rows b (up b) is.0, λ n other. is.1 n (record { is = down n other; behind = other.behind }))

by-test : (S T : Neighbour → Type 0) (rows : List Neighbour) (b n : Neighbour) → IsOneMore S T n → IsBehind T rows n → IsNext S rows (Some b) → (t : Bool) → nat_lt b.fall n.fall ≡ t → IsNext T rows (Some (cond t n b))
by-test S T rows b n one is so_far true less = (
  is,
  λ m other. elim (one.down m other.is) [
    | inl same ↦ inl same
    | inr was ↦
        let before : StandsBefore n b = inl (is_less b.fall n.fall less) in
        elim (so_far.1 m (record { is = was; behind = other.behind })) [ inl same ↦ inr (subst (StandsBefore n) (sym same) before) | inr runs_after_leader ↦ inr (before-trans n b m before runs_after_leader) ]
  ],
)
by-test S T rows b n one is so_far false less = (
  behind-up S T rows b (one.up b) so_far.0,
  λ m other. elim (one.down m other.is) [
    | inl same ↦ inr (subst (StandsBefore b) (sym same) (stands b n (not_less b.fall n.fall less) (one.last b so_far.0.is)))
    | inr was ↦ so_far.1 m (record { is = was; behind = other.behind })
  ],
)

pub next-more : (S T : Neighbour → Type 0) (rows : List Neighbour) (best : Option Neighbour) (n : Neighbour) → IsOneMore S T n → IsBehind T rows n → IsNext S rows best → IsNext T rows (Some (better_of best n))
next-more S T rows None n one is none = (
  is,
  λ m other. elim (one.down m other.is) [ inl same ↦ inl same | inr was ↦ absurd (none m (record { is = was; behind = other.behind })) ],
)
next-more S T rows (Some b) n one is so_far = by-test S T rows b n one is so_far (nat_lt b.fall n.fall) refl

-- so with one more number looked at
pub seen-next : (count p : ℕ) (whole left : Scores) (k : ℕ) (rows : List Neighbour) (best : Option Neighbour) (n : Neighbour) → n.predicate ≡ k → IsNeighbour count p whole left n → All (λ m. StandsBefore m n) rows
    → IsNext (IsSeen count p whole left k) rows best → IsNext (IsSeen count p whole left (k + 1)) rows (Some (better_of best n))
seen-next count p whole left k rows best n number is behind so_far =
    next-more (IsSeen count p whole left k) (IsSeen count p whole left (k + 1)) rows best n (seen-one count p whole left k n number is) (record { is = (is, omega (arith, number)); behind = behind }) so_far

pub seen-before : (count p : ℕ) (whole left : Scores) (k : ℕ) (rows : List Neighbour) (best : Option Neighbour) (n : Neighbour) → n.predicate ≡ k → IsNeighbour count p whole left n → (All (λ m. StandsBefore m n) rows → ⊥)
    → IsNext (IsSeen count p whole left k) rows best → IsNext (IsSeen count p whole left (k + 1)) rows best
seen-before count p whole left k rows best n number is not so_far =
    let one = seen-one count p whole left k n number is in
    next-same (IsSeen count p whole left k) (IsSeen count p whole left (k + 1)) rows best one.up
    (λ m other. elim (one.down m other.is) [ inl same ↦ absurd (not (subst (λ (x : Neighbour). All (λ y. StandsBefore y x) rows) same other.behind)) | inr was ↦ was ]) so_far

pub seen-passed : (count p : ℕ) (whole left : Scores) (k : ℕ) (rows : List Neighbour) (best : Option Neighbour) → ((fall : ℕ) → IsFall count p whole left k fall → 0 < fall → ⊥)
    → IsNext (IsSeen count p whole left k) rows best → IsNext (IsSeen count p whole left (k + 1)) rows best
seen-passed count p whole left k rows best none so_far =
    next-same (IsSeen count p whole left k) (IsSeen count p whole left (k + 1)) rows best (λ m seen. (seen.0, omega (arith, seen.1)))
    (λ m other. elim (cases_lt m.predicate k) [
      | inl less ↦ (other.is.0, less)
      | inr most ↦
          let same : m.predicate ≡ k = omega (arith, most, other.is.1) in
          absurd (none m.fall (subst (λ q. IsFall count p whole left q m.fall) same other.is.0.0) other.is.0.1)
    ]) so_far

pub seen-ended : (count p : ℕ) (whole left : Scores) (k : ℕ) (rows : List Neighbour) (best : Option Neighbour) → k ≡ count → IsNext (IsSeen count p whole left k) rows best → IsNext (IsNeighbour count p whole left) rows best
seen-ended count p whole left k rows best all so_far =
    next-same (IsSeen count p whole left k) (IsNeighbour count p whole left) rows best (λ m seen. seen.0) (λ m other. (other.is, omega (arith, other.is.0.is_one, all))) so_far

pub near-is : (bs branches : List Bool) (xs runs left : List LabelledRun) (p : ℕ) (rows : List Neighbour) → bs ≡ branches → xs ≡ runs → left ≡ runs_after_leader branches Every p runs → AreNearBy (predicates_in bs) p (scores_over bs xs) (scores_over bs left) rows → AreNear branches runs p rows
near-is bs branches xs runs left p rows b x l near =
    subst (λ (ys : List LabelledRun). AreNearBy (predicates_in branches) p (scores_over branches runs) (scores_over branches ys) rows) l
    (subst (λ (rs : List LabelledRun). AreNearBy (predicates_in branches) p (scores_over branches rs) (scores_over branches left) rows) x
    (subst (λ (as_are : List Bool). AreNearBy (predicates_in as_are) p (scores_over as_are xs) (scores_over as_are left) rows) b near))
