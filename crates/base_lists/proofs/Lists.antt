-- Lists: what stands at a place, and what changes by another item, by more of them and by fewer.
use Rattle.std.specs.Cmp.Lexicographic.{nat_list_eq_equiv}
use Rattle.std.proofs.Common.{[], List, Some, add-one, ap, arith, drop, false, get_or, inl, inr, length, refl, slice_get, suc, sym, take, take-suc, true, zero, ℕ, ◌++◌, ◌+◌, ◌-◌, ◌<◌, ◌∙◌, ◌∷◌, ◌≡◌, ◌⊎◌}
use Rattle.std.proofs.Math.Seq.{drop-cons}
use Rattle.std.proofs.lemmas.List.{length-drop, take_all}
use Rattle.std.proofs.lemmas.List.Concat.{length-flat_map}
use Rattle.std.proofs.lemmas.Option.{get_or_from_slice_get, slice_get_within}
use Rattle.std.proofs.lemmas.Slice.Eq.{bytes_eq-Decides}
use Rattle.std.specs.List.{flat_map, range_with_len}
use Rattle.std.specs.Prelude.{map, option_map, slice_set, sum_by}
use Rattle.std.specs.Str.{bytes_eq}

-- what stands in the first list stands there in the second
abbrev pub Stays : {A : Type 0} → List A → List A → Type 0
Stays {A = A} xs ys = (i : ℕ) (x : A) → slice_get xs i ≡ Some x → slice_get ys i ≡ Some x

-- there is an item at each place within
pub item_there : {A : Type 0} (xs : List A) (number : ℕ) → number < length xs → (x : A) × (slice_get xs number ≡ Some x)
item_there [] number l = absurd (omega (arith, l))
item_there (x ∷ xs) zero l = (x, refl)
item_there (x ∷ xs) (suc number) l = item_there xs number (omega (arith, l))

-- an item of the first of two joined lists
pub get_left : {X : Type 0} (xs ys : List X) (k : ℕ) (x : X) → slice_get xs k ≡ Some x → slice_get (xs ++ ys) k ≡ Some x
get_left [] ys k x e = cc
get_left (z ∷ zs) ys zero x e = e
get_left (z ∷ zs) ys (suc k) x e = get_left zs ys k x e

-- the items before the end
pub get_before : {A : Type 0} (xs : List A) (y : A) (i : ℕ) → i < length xs → slice_get (xs ++ y ∷ []) i ≡ slice_get xs i
get_before [] y i h = absurd (omega (arith, h))
get_before (x ∷ xs) y zero h = refl
get_before (x ∷ xs) y (suc i) h = get_before xs y i (omega (arith, h))

-- the last item
pub get_last : {A : Type 0} (xs : List A) (x : A) → slice_get (xs ++ x ∷ []) (length xs) ≡ Some x
get_last [] x = refl
get_last (y ∷ ys) x = get_last ys x

-- the item behind a list
pub next_is : {A : Type 0} (xs : List A) (x : A) (more : List A) → slice_get (xs ++ x ∷ more) (length xs) ≡ Some x
next_is [] x more = refl
next_is (y ∷ xs) x more = next_is xs x more

-- an item of a list with one more at its end
pub get_either : {X : Type 0} (xs : List X) (x : X) (k : ℕ) (y : X) → slice_get (xs ++ x ∷ []) k ≡ Some y → (slice_get xs k ≡ Some y) ⊎ ((k ≡ length xs) × (x ≡ y))
get_either [] x zero y h = inr (refl, cc)
get_either [] x (suc k) y h = cc
get_either (z ∷ zs) x zero y h = inl h
get_either (z ∷ zs) x (suc k) y h = elim (get_either zs x k y h) [ inl e ↦ inl e | inr e ↦ inr (ap suc e.0, e.1) ]

-- an item of a mapped list
pub get_map : {A B : Type 0} (f : A → B) (xs : List A) (i : ℕ) (x : A) → slice_get xs i ≡ Some x → slice_get (map f xs) i ≡ Some (f x)
get_map f [] i x h = cc
get_map f (y ∷ ys) zero x h = ap (option_map f) h
get_map f (y ∷ ys) (suc i) x h = get_map f ys i x h

-- the item at a place that is set
pub set_here : {A : Type 0} (xs : List A) (i : ℕ) (x : A) → i < length xs → slice_get (slice_set xs i x) i ≡ Some x
set_here [] i x h = absurd (omega (arith, h))
set_here (y ∷ ys) zero x h = refl
set_here (y ∷ ys) (suc i) x h = set_here ys i x (omega (arith, h))

-- the items at other places
pub set_other : {A : Type 0} (xs : List A) (i j : ℕ) (x : A) → (i ≡ j → ⊥) → slice_get (slice_set xs i x) j ≡ slice_get xs j
set_other (y ∷ ys) zero zero x h = absurd (h refl)
set_other (y ∷ ys) (suc i) (suc j) x h = set_other ys i j x (λ q. h (ap suc q))
set_other xs i j x h = refl

-- a list with another item is as long
pub set_long : {A : Type 0} (xs : List A) (i : ℕ) (x : A) → length (slice_set xs i x) ≡ length xs
set_long [] i x = refl
set_long (y ∷ ys) zero x = refl
set_long (y ∷ ys) (suc i) x = ap suc (set_long ys i x)

-- what is left from a place on begins with the item there
pub first_left : {A : Type 0} (xs : List A) (i : ℕ) (x : A) → i < length xs → x ≡ get_or xs i x → drop i xs ≡ x ∷ drop (suc i) xs
first_left xs i x inside is = drop-cons xs i x inside ∙ ap (λ y. y ∷ drop (suc i) xs) (sym is)

-- the first items, and one more
pub take_more : {X : Type 0} (xs : List X) (i : ℕ) (x : X) → slice_get xs i ≡ Some x → take (i + 1) xs ≡ take i xs ++ x ∷ []
take_more xs i x e =
    let l = slice_get_within xs i x e in
    let same = get_or_from_slice_get xs i x x e in
    rw add-one (take-suc xs i x l ∙ ap (λ y. take i xs ++ y ∷ []) same)

-- all that is left from a place on
pub take_from : (bytes : List ℕ) (from : ℕ) → take (length bytes - from) (drop from bytes) ≡ drop from bytes
take_from bytes from = take_all (length bytes - from) (drop from bytes) (omega (arith, length-drop from bytes))

-- an item of a range
pub range_at : (a n i : ℕ) → i < n → get_or (range_with_len a n) i 0 ≡ a + i
range_at a zero i h = absurd (omega arith)
range_at a (suc n) zero h = omega arith
range_at a (suc n) (suc i) h = omega (arith, range_at (a + 1) n i (omega arith))

-- texts that test equal are one
pub same_bytes : (a b : List ℕ) → bytes_eq a b ≡ true → a ≡ b
same_bytes a b h = (bytes_eq-Decides a b).0 h

-- what equals one of two different names isn't the other
pub bytes_apart : (name other key : List ℕ) → bytes_eq name other ≡ false → bytes_eq name key ≡ true → bytes_eq other key ≡ false
bytes_apart name other key n y = nat_list_eq_equiv.symm other key ∙ sym (nat_list_eq_equiv.congr name key other y) ∙ n

-- joined texts are as long as all of them
pub bytes_long : (parts : List (List ℕ)) → length (flat_map (λ bytes. bytes) parts) ≡ sum_by length parts
bytes_long parts = length-flat_map (λ bytes. bytes) parts
