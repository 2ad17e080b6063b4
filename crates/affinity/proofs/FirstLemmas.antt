-- The first so many of a kind of neighbours, when one more is offered.
use Rattle.std.proofs.Common.{◌≡◌, ℕ, zero, suc, ◌<◌, ◌≤◌, ◌⊎◌, inl, inr, List, [], ◌∷◌, ◌++◌, length, take, refl, sym, ap, subst, ◌∙◌, arith}
use Rattle.std.specs.Prelude.{All, Contains}
use Rattle.std.proofs.lemmas.Bool.{cases_lt}
use Rattle.std.proofs.lemmas.List.{length-append, length-take-le, take-append-le}
use Rattle.std.proofs.lemmas.List.Elements.{All-append, All-cons, All-contains, All-head, All-nil, All-same, All-tail, All-take, All-weaker, Contains-append_cases, Contains-append_left, Contains-append_right, Contains-push, Contains-push_cases}
use Rattle.affinity.specs.declared.neighbour.Neighbour.{Neighbour}
use Rattle.affinity.specs.Near.{AreFirst, AreInOrder, StandsBefore}

-- members of a list
pub no-member : (m : Neighbour) → Contains {X = Neighbour} [] m → ⊥
no-member m has = absurd (omega (arith, has.1))

pub member-cases : (n : Neighbour) (more : List Neighbour) (m : Neighbour) → Contains (n ∷ more) m → (n ≡ m) ⊎ Contains more m
member-cases n more m has =
    elim (Contains-append_cases (n ∷ []) more m has) [
      | inl first ↦ elim (Contains-push_cases [] n m first) [ inl none ↦ absurd (no-member m none) | inr same ↦ inl same ]
      | inr rest ↦ inr rest
    ]

first-member : (n : Neighbour) (more : List Neighbour) → Contains (n ∷ more) n
first-member n more = Contains-append_left (n ∷ []) more n (Contains-push [] n)

later-member : (n : Neighbour) (more : List Neighbour) (m : Neighbour) → Contains more m → Contains (n ∷ more) m
later-member n more m has = Contains-append_right (n ∷ []) more m has

all-left : (P : Neighbour → Type 0) (xs ys : List Neighbour) → All P (xs ++ ys) → All P xs
all-left P [] ys all = All-nil P
all-left P (x ∷ xs) ys all = All-cons P x xs (All-head P x (xs ++ ys) all) (all-left P xs ys (All-tail P x (xs ++ ys) all))

all-right : (P : Neighbour → Type 0) (xs ys : List Neighbour) → All P (xs ++ ys) → All P ys
all-right P [] ys all = all
all-right P (x ∷ xs) ys all = all-right P xs ys (All-tail P x (xs ++ ys) all)

-- the order
pub before-trans : (a b c : Neighbour) → StandsBefore a b → StandsBefore b c → StandsBefore a c
before-trans a b c x y =
    elim x [
      | inl f ↦ elim y [ inl g ↦ inl (omega (arith, f, g)) | inr g ↦ inl (omega (arith, f, g.0)) ]
      | inr f ↦ elim y [ inl g ↦ inl (omega (arith, f.0, g)) | inr g ↦ inr (f.0 ∙ g.0, omega (arith, f.1, g.1)) ]
    ]

pub not-before-itself : (a : Neighbour) → StandsBefore a a → ⊥
not-before-itself a x = elim x [ inl f ↦ omega (arith, f) | inr f ↦ omega (arith, f.1) ]

ordered-take : (k : ℕ) (rows : List Neighbour) → AreInOrder rows → AreInOrder (take k rows)
ordered-take (suc k) (n ∷ more) order = (All-take (StandsBefore n) k more order.0, ordered-take k more order.1)
ordered-take zero [] order = tt
ordered-take zero (n ∷ more) order = tt
ordered-take (suc k) [] order = tt

ordered-right : (xs ys : List Neighbour) → AreInOrder (xs ++ ys) → AreInOrder ys
ordered-right [] ys order = order
ordered-right (x ∷ xs) ys order = ordered-right xs ys order.1

ordered-insert : (xs ys : List Neighbour) (n : Neighbour) → AreInOrder (xs ++ ys) → All (λ m. StandsBefore m n) xs → All (StandsBefore n) ys → AreInOrder (xs ++ n ∷ ys)
ordered-insert [] ys n order above below = (below, order)
ordered-insert (x ∷ xs) ys n order above below = (
  All-append (StandsBefore x) xs (n ∷ ys) (all-left (StandsBefore x) xs ys order.0) (All-cons (StandsBefore x) n ys (All-head (λ m. StandsBefore m n) x xs above) (all-right (StandsBefore x) xs ys order.0)),
  ordered-insert xs ys n order.1 (All-tail (λ m. StandsBefore m n) x xs above) below,
)

pub stands : (m n : Neighbour) → n.fall ≤ m.fall → m.predicate < n.predicate → StandsBefore m n
stands m n fall less = elim (cases_lt n.fall m.fall) [ inl greater ↦ inl greater | inr most ↦ inr (omega (arith, fall, most), less) ]

above-all : (xs : List Neighbour) (n : Neighbour) → All (λ m. n.fall ≤ m.fall) xs → All (λ m. m.predicate < n.predicate) xs → All (λ m. StandsBefore m n) xs
above-all [] n falls less = All-nil (λ m. StandsBefore m n)
above-all (x ∷ xs) n falls less =
    All-cons (λ m. StandsBefore m n) x xs (stands x n (All-head (λ m. n.fall ≤ m.fall) x xs falls) (All-head (λ m. m.predicate < n.predicate) x xs less))
    (above-all xs n (All-tail (λ m. n.fall ≤ m.fall) x xs falls) (All-tail (λ m. m.predicate < n.predicate) x xs less))

-- the first of these has a smaller fall
abbrev pub FallsBelow : ℕ → List Neighbour → Type 0
FallsBelow fall [] = Unit {0}
FallsBelow fall (m ∷ more) = m.fall < fall

below-all : (ys : List Neighbour) (n : Neighbour) → AreInOrder ys → FallsBelow n.fall ys → All (StandsBefore n) ys
below-all [] n order below = All-nil (StandsBefore n)
below-all (m ∷ more) n order below =
    let here : StandsBefore n m = inl below in
    All-cons (StandsBefore n) m more here (All-weaker (StandsBefore m) (StandsBefore n) (λ x b. before-trans n m x here b) more order.0)

-- a member of an ordered list is among its first, or these all stand before it
cut : (k : ℕ) (rows : List Neighbour) (m : Neighbour) → AreInOrder rows → Contains rows m → Contains (take k rows) m ⊎ ((length (take k rows) ≡ k) × All (λ x. StandsBefore x m) (take k rows))
cut zero [] m order has = absurd (no-member m has)
cut zero (n ∷ more) m order has = inr (refl, All-nil (λ x. StandsBefore x m))
cut (suc k) [] m order has = absurd (no-member m has)
cut (suc k) (n ∷ more) m order has =
    elim (member-cases n more m has) [
      | inl same ↦ inl (subst (Contains (n ∷ take k more)) same (first-member n (take k more)))
      | inr rest ↦ elim (cut k more m order.1 rest) [
        | inl there ↦ inl (later-member n (take k more) m there)
        | inr full ↦ inr (ap suc full.0, All-cons (λ x. StandsBefore x m) n (take k more) (All-contains (StandsBefore n) more m order.0 rest) full.1)
      ]
    ]

take-most : (k : ℕ) (rows : List Neighbour) → length (take k rows) ≤ k
take-most (suc k) (n ∷ more) = omega (arith, take-most k more)
take-most zero [] = omega arith
take-most zero (n ∷ more) = omega arith
take-most (suc k) [] = omega arith

-- those who stood before it still do
full-all : (k : ℕ) (xs ys : List Neighbour) (n m : Neighbour) → All (StandsBefore n) ys → length (xs ++ ys) ≡ k → All (λ x. StandsBefore x m) (xs ++ ys) → All (λ x. StandsBefore x m) (take k (xs ++ n ∷ ys))
full-all k xs [] n m behind long all =
    let P : Neighbour → Type 0 = λ x. StandsBefore x m in
    All-same P (take k (xs ++ n ∷ [])) (take k xs) (take-append-le k xs (n ∷ []) (omega (arith, long, length-append xs []))) (All-take P k xs (all-left P xs [] all))
full-all k xs (y ∷ more) n m behind long all =
    let P : Neighbour → Type 0 = λ x. StandsBefore x m in
    let rest : All P (y ∷ more) = all-right P xs (y ∷ more) all in
    All-take P k (xs ++ n ∷ y ∷ more)
    (All-append P xs (n ∷ y ∷ more) (all-left P xs (y ∷ more) all) (All-cons P n (y ∷ more) (before-trans n y m (All-head (StandsBefore n) y more behind) (All-head P y more rest)) rest))

member-more : (xs ys : List Neighbour) (n m : Neighbour) → Contains (xs ++ ys) m → Contains (xs ++ n ∷ ys) m
member-more xs ys n m has = elim (Contains-append_cases xs ys m has) [ inl left ↦ Contains-append_left xs (n ∷ ys) m left | inr right ↦ Contains-append_right xs (n ∷ ys) m (later-member n ys m right) ]

pub first-none : (k : ℕ) (S : Neighbour → Type 0) → ((n : Neighbour) → S n → ⊥) → AreFirst k S []
first-none k S none = record { few = omega arith; each = All-nil S; order = tt; others = λ n is. absurd (none n is) }

pub first-same : (k : ℕ) (S T : Neighbour → Type 0) (rows : List Neighbour) → ((n : Neighbour) → S n → T n) → ((n : Neighbour) → T n → S n) → AreFirst k S rows → AreFirst k T rows
first-same k S T rows to from first = record { few = first.few; each = All-weaker S T to rows first.each; order = first.order; others = λ n is. first.others n (from n is) }

-- one more of the kind, with a greater number than all before
pub record IsOneMore (S T : Neighbour → Type 0) (n : Neighbour) : Type 0 where
  pub is : T n
  pub up : (m : Neighbour) → S m → T m
  pub down : (m : Neighbour) → T m → (m ≡ n) ⊎ S m
  pub last : (m : Neighbour) → S m → m.predicate < n.predicate

pub first-more : (k : ℕ) (S T : Neighbour → Type 0) (xs ys : List Neighbour) (n : Neighbour) → IsOneMore S T n → AreFirst k S (xs ++ ys) → All (λ m. n.fall ≤ m.fall) xs → FallsBelow n.fall ys → AreFirst k T (take k (xs ++ n ∷ ys))
first-more k S T xs ys n one first above below =
    let all = xs ++ n ∷ ys in
    let front = above-all xs n above (All-weaker S (λ m. m.predicate < n.predicate) one.last xs (all-left S xs ys first.each)) in
    let back = below-all ys n (ordered-right xs ys first.order) below in
    let order = ordered-insert xs ys n first.order front back in record {
      few = take-most k all;
      each = All-take T k all (All-append T xs (n ∷ ys) (All-weaker S T one.up xs (all-left S xs ys first.each)) (All-cons T n ys one.is (All-weaker S T one.up ys (all-right S xs ys first.each))));
      order = ordered-take k all order;
      others = λ m is. elim (one.down m is) [
        | inl same ↦ cut k all m order (subst (Contains all) (sym same) (Contains-append_right xs (n ∷ ys) n (first-member n ys)))
        | inr was ↦ elim (first.others m was) [
          | inl has ↦ cut k all m order (member-more xs ys n m has)
          | inr full ↦ inr (length-take-le k all (omega (arith, full.0, length-append xs ys, length-append xs (n ∷ ys))), full-all k xs ys n m back full.0 full.1)
        ]
      ];
    }
