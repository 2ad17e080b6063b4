-- What holds of each item of a list, of one of them, and of each two.
use Rattle.std.proofs.Common.{[], All, List, Some, arith, inl, inr, length, refl, slice_get, subst, suc, sym, zero, ℕ, ◌++◌, ◌∷◌, ◌≡◌, ◌⊎◌}
use Rattle.std.proofs.lemmas.List.{get_or_append_left, get_or_at, length-append}
use Rattle.std.proofs.lemmas.List.Elements.{recursion_from_All}
use Rattle.std.proofs.lemmas.List.Kept.{AllPairs-cons}
use Rattle.std.proofs.lemmas.Option.{same_Some}
use Rattle.std.specs.List.{AllByRecursion, Contains}
use Rattle.std.specs.Prelude.{AllPairs}

-- what holds of each item holds of the one at a place
pub all_at : {A : Type 0} (P : A → Type 0) (xs : List A) (i : ℕ) (x : A) → AllByRecursion P xs → slice_get xs i ≡ Some x → P x
all_at P [] i x h e = cc
all_at P (y ∷ xs) zero x h e = subst P (same_Some y x e) h.0
all_at P (y ∷ xs) (suc i) x h e = all_at P xs i x h.1 e

-- the same, by places
pub every_at : {A : Type 0} (P : A → Type 0) (xs : List A) → All P xs → (number : ℕ) (x : A) → slice_get xs number ≡ Some x → P x
every_at P xs all number x h = all_at P xs number x (recursion_from_All P xs all) h

-- what follows from what holds
pub all_so : {A : Type 0} (P Q : A → Type 0) (ns : List A) → ((n : A) → P n → Q n) → AllByRecursion P ns → AllByRecursion Q ns
all_so P Q [] f h = tt
all_so P Q (n ∷ ns) f h = (f n h.0, all_so P Q ns f h.1)

-- one more item
pub all_more : {A : Type 0} (P : A → Type 0) (xs : List A) (x : A) → AllByRecursion P xs → P x → AllByRecursion P (xs ++ x ∷ [])
all_more P [] x h k = (k, tt)
all_more P (y ∷ xs) x h k = (h.0, all_more P xs x h.1 k)

-- two lists, joined
pub all_join : {A : Type 0} (P : A → Type 0) (xs ys : List A) → AllByRecursion P xs → AllByRecursion P ys → AllByRecursion P (xs ++ ys)
all_join P [] ys h k = k
all_join P (x ∷ xs) ys h k = (h.0, all_join P xs ys h.1 k)

-- the first of two joined lists
pub all_first : {A : Type 0} (P : A → Type 0) (xs ys : List A) → AllByRecursion P (xs ++ ys) → AllByRecursion P xs
all_first P [] ys h = tt
all_first P (x ∷ xs) ys h = (h.0, all_first P xs ys h.1)

-- and the second
pub all_second : {A : Type 0} (P : A → Type 0) (xs ys : List A) → AllByRecursion P (xs ++ ys) → AllByRecursion P ys
all_second P [] ys h = h
all_second P (x ∷ xs) ys h = all_second P xs ys h.1

-- what holds of each item holds of the one where a list is parted
pub at_split : {X : Type 0} (P : X → Type 0) (xs before after : List X) (x : X) → xs ≡ before ++ x ∷ after → All P xs → P x
at_split P xs before after x stands all =
    subst P (get_or_at before x after x (length before) refl)
    (subst (All P) stands all (length before) x (omega (arith, length-append before (x ∷ after))))

-- nothing is in an empty list
pub none_in : (x : ℕ) → Contains [] x → ⊥
none_in x c = omega (arith, c.1)

-- and of one
pub only_in : (a x : ℕ) → Contains (a ∷ []) x → x ≡ a
only_in a x (zero, l, e) = sym e
only_in a x (suc k, l, e) = absurd (omega arith)

-- what is in a list of two
pub two_in : (a b x : ℕ) → Contains (a ∷ b ∷ []) x → (x ≡ a) ⊎ (x ≡ b)
two_in a b x (zero, l, e) = inl (sym e)
two_in a b x (suc k, l, e) = inr (only_in b x (k, omega arith, e))

-- the first item is in its list
pub first_in : (a : ℕ) (xs : List ℕ) → Contains (a ∷ xs) a
first_in a xs = (0, omega arith, refl)

-- so is the second
pub second_in : (a b : ℕ) (xs : List ℕ) → Contains (a ∷ b ∷ xs) b
second_in a b xs = (1, omega arith, refl)

-- an empty list has no pairs
pub pairs_none : {X : Type 0} (R : X → X → Type 0) → AllPairs {X = X} R []
pairs_none R = λ i j d less inside. absurd (omega (arith, inside))

-- each later item stands in the relation to the first
pub pairs_head : {X : Type 0} (R : X → X → Type 0) (x : X) (more : List X) → AllPairs R (x ∷ more) → All (R x) more
pairs_head R x more all = λ k d inside. all 0 (suc k) d (omega arith) (omega (arith, inside))

-- and so among the later ones
pub pairs_tail : {X : Type 0} (R : X → X → Type 0) (x : X) (more : List X) → AllPairs R (x ∷ more) → AllPairs R more
pairs_tail R x more all = λ i j d less inside. all (suc i) (suc j) d (omega (arith, less)) (omega (arith, inside))

-- what holds of each item of two joined lists holds of those of the first
pub every_left : {X : Type 0} (P : X → Type 0) (xs ys : List X) → All P (xs ++ ys) → All P xs
every_left P xs ys all = λ k d inside. subst P (get_or_append_left xs ys d k inside) (all k d (omega (arith, inside, length-append xs ys)))

-- and within the first of two joined lists
pub pairs_left : {X : Type 0} (R : X → X → Type 0) (xs ys : List X) → AllPairs R (xs ++ ys) → AllPairs R xs
pairs_left R [] ys all = pairs_none R
pairs_left R (x ∷ more) ys all = AllPairs-cons R x more (every_left (R x) more ys (pairs_head R x (more ++ ys) all)) (pairs_left R more ys (pairs_tail R x (more ++ ys) all))
