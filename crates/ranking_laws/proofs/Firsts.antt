-- In an order any things have a list of the first so many, and one.
use Rattle.std.proofs.Common.{◌≡◌, ℕ, zero, suc, ◌<◌, ◌≤◌, ◌⊎◌, inl, inr, List, [], ◌∷◌, length, get_or, take, drop, refl, sym, ap, subst, ◌∙◌, arith}
use Rattle.std.specs.Prelude.{All, AllPairs, Contains}
use Rattle.std.proofs.lemmas.List.{length-take, take-append-drop}
use Rattle.std.proofs.lemmas.List.Elements.{All-cons, All-contains, All-head, All-nil, All-tail, All-take, All-weaker, Contains-get_or}
use Rattle.std.proofs.lemmas.List.Kept.{AllPairs-cons}
use Rattle.base_lists.proofs.Every.{pairs_head, pairs_left, pairs_none, pairs_tail}

-- ---- members

pub first-member : {X : Type 0} (x : X) (more : List X) → Contains (x ∷ more) x
first-member x more = (0, omega arith, refl)

pub later-member : {X : Type 0} (x : X) (more : List X) (m : X) → Contains more m → Contains (x ∷ more) m
later-member x more m has = (suc has.0, omega (arith, has.1), has.2)

no-member : {X : Type 0} (m : X) → Contains {X = X} [] m → ⊥
no-member m has = omega (arith, has.1)

member-at : {X : Type 0} (x : X) (more : List X) (m : X) (k : ℕ) → k < length (x ∷ more) → get_or (x ∷ more) k m ≡ m → (x ≡ m) ⊎ Contains more m
member-at x more m zero inside is = inl is
member-at x more m (suc k) inside is = inr (k, omega (arith, inside), is)

pub member-cases : {X : Type 0} (x : X) (more : List X) (m : X) → Contains (x ∷ more) m → (x ≡ m) ⊎ Contains more m
member-cases x more m has = member-at x more m has.0 has.1 has.2

all-members : {X : Type 0} (P : X → Type 0) (xs : List X) → ((x : X) → Contains xs x → P x) → All P xs
all-members P xs each = λ k d inside. each (get_or xs k d) (Contains-get_or xs k d inside)

-- ---- an order, and a list in it

-- of two things one stands before the other, or they are one
pub record IsOrder {X : Type 0} (R : X → X → Type 0) : Type 0 where
  pub told : (x y : X) → R x y ⊎ ((x ≡ y) ⊎ R y x)
  pub trans : (x y z : X) → R x y → R y z → R x z
  pub apart : (x y : X) → R x y → R y x → ⊥

-- one more in its place
record Put {X : Type 0} (R : X → X → Type 0) (x : X) (rows : List X) : Type 0 where
  new : List X
  order : AllPairs R new
  own : Contains new x
  kept : (z : X) → Contains rows z → Contains new z
  only : (z : X) → Contains new z → (x ≡ z) ⊎ Contains rows z

put : {X : Type 0} (R : X → X → Type 0) → IsOrder R → (x : X) (rows : List X) → AllPairs R rows → Put R x rows
put R is x [] order = record {
  new = x ∷ [];
  order = AllPairs-cons R x [] (All-nil (R x)) (pairs_none R);
  own = first-member x [];
  kept = λ z has. absurd (no-member z has);
  only = λ z has. member-cases x [] z has;
}
put R is x (y ∷ ys) order =
    elim (is.told x y) [
      | inl before ↦ record {
        new = x ∷ y ∷ ys;
        order = AllPairs-cons R x (y ∷ ys) (All-cons (R x) y ys before (All-weaker (R y) (R x) (λ z h. is.trans x y z before h) ys (pairs_head R y ys order))) order;
        own = first-member x (y ∷ ys);
        kept = λ z has. later-member x (y ∷ ys) z has;
        only = λ z has. member-cases x (y ∷ ys) z has;
      }
      | inr (inl same) ↦ record {
        new = y ∷ ys;
        order = order;
        own = subst (Contains (y ∷ ys)) (sym same) (first-member y ys);
        kept = λ z has. has;
        only = λ z has. inr has;
      }
      | inr (inr behind) ↦
          let rest = put R is x ys (pairs_tail R y ys order) in record {
            new = y ∷ rest.new;
            order = AllPairs-cons R y rest.new
                (all-members (R y) rest.new (λ z has. elim (rest.only z has) [ inl same ↦ subst (R y) same behind | inr old ↦ All-contains (R y) ys z (pairs_head R y ys order) old ])) rest.order;
            own = later-member y rest.new x rest.own;
            kept = λ z has. elim (member-cases y ys z has) [ inl same ↦ subst (Contains (y ∷ rest.new)) same (first-member y rest.new) | inr old ↦ later-member y rest.new z (rest.kept z old) ];
            only = λ z has. elim (member-cases y rest.new z has) [
              | inl same ↦ inr (subst (Contains (y ∷ ys)) same (first-member y ys))
              | inr new ↦ elim (rest.only z new) [ inl same ↦ inl same | inr old ↦ inr (later-member y ys z old) ]
            ];
          }
    ]

-- the same things in the order
record Sorting {X : Type 0} (R : X → X → Type 0) (xs : List X) : Type 0 where
  rows : List X
  order : AllPairs R rows
  all : (z : X) → Contains xs z → Contains rows z
  only : (z : X) → Contains rows z → Contains xs z

sorting : {X : Type 0} (R : X → X → Type 0) → IsOrder R → (xs : List X) → Sorting R xs
sorting R is [] = record { rows = []; order = pairs_none R; all = λ z has. has; only = λ z has. has }
sorting R is (x ∷ more) =
    let rest = sorting R is more in
    let new = put R is x rest.rows rest.order in record {
      rows = new.new;
      order = new.order;
      all = λ z has. elim (member-cases x more z has) [ inl same ↦ subst (Contains new.new) same new.own | inr old ↦ new.kept z (rest.all z old) ];
      only = λ z has. elim (new.only z has) [ inl same ↦ subst (Contains (x ∷ more)) same (first-member x more) | inr old ↦ later-member x more z (rest.only z old) ];
    }

-- ---- the first so many of a kind

-- each of the kind is listed, or so many stand before it
pub record AreFirstOf {X : Type 0} (most : ℕ) (R : X → X → Type 0) (IsOfKind : X → Type 0) (rows : List X) : Type 0 where
  pub each : All IsOfKind rows
  pub ordered : AllPairs R rows
  pub few : length rows ≤ most
  pub complete : (x : X) → IsOfKind x → Contains rows x ⊎ ((length rows ≡ most) × All (λ y. R y x) rows)

-- a member of an ordered list is among its first, or these all stand before it
cut : {X : Type 0} (R : X → X → Type 0) (k : ℕ) (rows : List X) (m : X) → AllPairs R rows → Contains rows m → Contains (take k rows) m ⊎ ((length (take k rows) ≡ k) × All (λ x. R x m) (take k rows))
cut R zero [] m order has = absurd (no-member m has)
cut R zero (x ∷ more) m order has = inr (refl, All-nil (λ y. R y m))
cut R (suc k) [] m order has = absurd (no-member m has)
cut R (suc k) (x ∷ more) m order has =
    elim (member-cases x more m has) [
      | inl same ↦ inl (subst (Contains (x ∷ take k more)) same (first-member x (take k more)))
      | inr rest ↦ elim (cut R k more m (pairs_tail R x more order) rest) [
        | inl there ↦ inl (later-member x (take k more) m there)
        | inr full ↦ inr (ap suc full.0, All-cons (λ y. R y m) x (take k more) (All-contains (R x) more m (pairs_head R x more order) rest) full.1)
      ]
    ]

pub firsts : {X : Type 0} (most : ℕ) (R : X → X → Type 0) (IsOfKind : X → Type 0) → IsOrder R → (xs : List X) → All IsOfKind xs → ((x : X) → IsOfKind x → Contains xs x) → (rows : List X) × AreFirstOf most R IsOfKind rows
firsts {X} most R IsOfKind is xs each all =
    let sorted = sorting R is xs in
    let rows : List X = take most sorted.rows in (
      rows,
      record {
        each = All-take IsOfKind most sorted.rows (all-members IsOfKind sorted.rows (λ x has. All-contains IsOfKind xs x each (sorted.only x has)));
        ordered = pairs_left R rows (drop most sorted.rows) (subst (AllPairs R) (sym (take-append-drop most sorted.rows)) sorted.order);
        few = omega (arith, length-take most sorted.rows);
        complete = λ x kind. cut R most sorted.rows x sorted.order (sorted.all x (all x kind));
      },
    )

-- ---- and there is one

module _ {X : Type 0} (R : X → X → Type 0) (is : IsOrder R) where
  not-itself : (x : X) → R x x → ⊥
  not-itself x before = is.apart x x before before

  heads : (k : ℕ) (S : X → Type 0) (x y : X) (xs ys : List X) → AreFirstOf k R S (x ∷ xs) → AreFirstOf k R S (y ∷ ys) → (x ≡ y) ⊎ R x y
  heads k S x y xs ys a b =
      elim (a.complete y (All-head S y ys b.each)) [
        | inl has ↦ elim (member-cases x xs y has) [ inl same ↦ inl same | inr rest ↦ inr (All-contains (R x) xs y (pairs_head R x xs a.ordered) rest) ]
        | inr full ↦ inr (All-head (λ m. R m y) x xs full.1)
      ]

  same-heads : (k : ℕ) (S : X → Type 0) (x y : X) (xs ys : List X) → AreFirstOf k R S (x ∷ xs) → AreFirstOf k R S (y ∷ ys) → x ≡ y
  same-heads k S x y xs ys a b =
      elim (heads k S x y xs ys a b) [
        | inl same ↦ same
        | inr one ↦ elim (heads k S y x ys xs b a) [ inl same ↦ sym same | inr other ↦ absurd (is.apart x y one other) ]
      ]

  none-more : (k : ℕ) (S : X → Type 0) (y : X) (ys : List X) → AreFirstOf k R S [] → AreFirstOf k R S (y ∷ ys) → ⊥
  none-more k S y ys a b = elim (a.complete y (All-head S y ys b.each)) [ inl has ↦ no-member y has | inr full ↦ omega (arith, full.0, b.few) ]

  -- those behind the first
  abbrev Behind : (X → Type 0) → X → X → Type 0
  Behind S y m = S m × R y m

  rest-first : (k : ℕ) (S : X → Type 0) (y : X) (ys : List X) → AreFirstOf (suc k) R S (y ∷ ys) → AreFirstOf k R (Behind S y) ys
  rest-first k S y ys a = record {
    each = λ i d inside. (All-tail S y ys a.each i d inside, pairs_head R y ys a.ordered i d inside);
    ordered = pairs_tail R y ys a.ordered;
    few = omega (arith, a.few);
    complete = λ m kind. elim (a.complete m kind.0) [
      | inl has ↦ elim (member-cases y ys m has) [ inl same ↦ absurd (not-itself y (subst (R y) (sym same) kind.1)) | inr rest ↦ inl rest ]
      | inr full ↦ inr (omega (arith, full.0), All-tail (λ x. R x m) y ys full.1)
    ];
  }

  pub one-list : (k : ℕ) (S : X → Type 0) (one other : List X) → AreFirstOf k R S one → AreFirstOf k R S other → one ≡ other
  one-list k S [] [] a b = refl
  one-list k S [] (y ∷ ys) a b = absurd (none-more k S y ys a b)
  one-list k S (x ∷ xs) [] a b = absurd (none-more k S x xs b a)
  one-list zero S (x ∷ xs) (y ∷ ys) a b = absurd (omega (arith, a.few))
  one-list (suc k) S (x ∷ xs) (y ∷ ys) a b =
      let same = same-heads (suc k) S x y xs ys a b in
      let moved : AreFirstOf (suc k) R S (y ∷ xs) = subst (λ (z : X). AreFirstOf (suc k) R S (z ∷ xs)) same a in
      ap (λ (z : X). z ∷ xs) same ∙ ap (λ (zs : List X). y ∷ zs) (one-list k (Behind S y) xs ys (rest-first k S y xs moved) (rest-first k S y ys b))
