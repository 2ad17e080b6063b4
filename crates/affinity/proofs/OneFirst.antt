-- There is one list of the first so many of a kind.
use Rattle.std.proofs.Common.{◌≡◌, ℕ, zero, suc, ◌⊎◌, inl, inr, List, [], ◌∷◌, refl, sym, ap, subst, ◌∙◌, arith}
use Rattle.std.specs.Prelude.{All}
use Rattle.std.proofs.lemmas.List.Elements.{All-cons, All-contains, All-head, All-nil, All-tail}
use Rattle.affinity.specs.declared.neighbour.Neighbour.{Neighbour}
use Rattle.affinity.specs.Near.{AreFirst, StandsBefore}
use Rattle.affinity.proofs.FirstLemmas.{before-trans, member-cases, no-member, not-before-itself}

-- the first is another one's or stands before it
heads : (k : ℕ) (S : Neighbour → Type 0) (x y : Neighbour) (xs ys : List Neighbour) → AreFirst k S (x ∷ xs) → AreFirst k S (y ∷ ys) → (x ≡ y) ⊎ StandsBefore x y
heads k S x y xs ys a b =
    elim (a.others y (All-head S y ys b.each)) [
      | inl has ↦ elim (member-cases x xs y has) [ inl same ↦ inl same | inr rest ↦ inr (All-contains (StandsBefore x) xs y a.order.0 rest) ]
      | inr full ↦ inr (All-head (λ m. StandsBefore m y) x xs full.1)
    ]

same-heads : (k : ℕ) (S : Neighbour → Type 0) (x y : Neighbour) (xs ys : List Neighbour) → AreFirst k S (x ∷ xs) → AreFirst k S (y ∷ ys) → x ≡ y
same-heads k S x y xs ys a b =
    elim (heads k S x y xs ys a b) [
      | inl same ↦ same
      | inr one ↦ elim (heads k S y x ys xs b a) [ inl same ↦ sym same | inr other ↦ absurd (not-before-itself x (before-trans x y x one other)) ]
    ]

none-more : (k : ℕ) (S : Neighbour → Type 0) (y : Neighbour) (ys : List Neighbour) → AreFirst k S [] → AreFirst k S (y ∷ ys) → ⊥
none-more k S y ys a b = elim (a.others y (All-head S y ys b.each)) [ inl has ↦ no-member y has | inr full ↦ absurd (omega (arith, full.0, b.few)) ]

-- those behind the first
abbrev Behind : (Neighbour → Type 0) → Neighbour → Neighbour → Type 0
Behind S y m = S m × StandsBefore y m

both-all : (S : Neighbour → Type 0) (y : Neighbour) (ys : List Neighbour) → All S ys → All (StandsBefore y) ys → All (Behind S y) ys
both-all S y [] a b = All-nil (Behind S y)
both-all S y (m ∷ more) a b = All-cons (Behind S y) m more (All-head S m more a, All-head (StandsBefore y) m more b) (both-all S y more (All-tail S m more a) (All-tail (StandsBefore y) m more b))

rest-first : (k : ℕ) (S : Neighbour → Type 0) (y : Neighbour) (ys : List Neighbour) → AreFirst (suc k) S (y ∷ ys) → AreFirst k (Behind S y) ys
rest-first k S y ys a = record {
  few = omega (arith, a.few);
  each = both-all S y ys (All-tail S y ys a.each) a.order.0;
  order = a.order.1;
  others = λ m is. elim (a.others m is.0) [
    | inl has ↦ elim (member-cases y ys m has) [ inl same ↦ absurd (not-before-itself y (subst (StandsBefore y) (sym same) is.1)) | inr rest ↦ inl rest ]
    | inr full ↦ inr (omega (arith, full.0), All-tail (λ x. StandsBefore x m) y ys full.1)
  ];
}

pub one-first : (k : ℕ) (S : Neighbour → Type 0) (one other : List Neighbour) → AreFirst k S one → AreFirst k S other → one ≡ other
one-first k S [] [] a b = refl
one-first k S [] (y ∷ ys) a b = absurd (none-more k S y ys a b)
one-first k S (x ∷ xs) [] a b = absurd (none-more k S x xs b a)
one-first zero S (x ∷ xs) (y ∷ ys) a b = absurd (omega (arith, a.few))
one-first (suc k) S (x ∷ xs) (y ∷ ys) a b =
    let same = same-heads (suc k) S x y xs ys a b in
    let moved : AreFirst (suc k) S (y ∷ xs) = subst (λ (z : Neighbour). AreFirst (suc k) S (z ∷ xs)) same a in
    ap (λ (z : Neighbour). z ∷ xs) same ∙ ap (λ zs. y ∷ zs) (one-first k (Behind S y) xs ys (rest-first k S y xs moved) (rest-first k S y ys b))
