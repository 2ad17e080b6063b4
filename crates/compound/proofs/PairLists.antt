-- Lists in which each element stands in a relation to each later one, and the pairs of a list.
use Rattle.std.proofs.Common.{◌≡◌, ℕ, zero, suc, ◌+◌, ◌-◌, ◌*◌, ◌/◌, ◌<◌, List, [], ◌∷◌, ◌++◌, length, get_or, map, refl, sym, ap, subst, ◌∙◌, arith}
use Rattle.std.specs.Prelude.{All, AllPairs}
use Rattle.std.specs.List.{range_with_len}
use Rattle.std.proofs.lemmas.List.{ext_get_or, get_or-append-add, get_or-map, length-append, length-map, map-append}
use Rattle.std.proofs.lemmas.List.Elements.{All-append, All-cons, All-head, All-map, All-nil, All-tail, All-weaker}
use Rattle.std.proofs.lemmas.List.Kept.{AllPairs-cons}
use Rattle.std.proofs.lemmas.Simd.{map-map}
use Rattle.std.proofs.lemmas.List.FromFn.{length-range_with_len}
use Rattle.base_lists.proofs.Lists.{range_at}
use Rattle.base_lists.proofs.Every.{pairs_head, pairs_tail}
use Rattle.compound.specs.Pairs.{pairs_of}

-- ---- each element and each later one

all-right : {X : Type 0} (P : X → Type 0) (xs ys : List X) → All P (xs ++ ys) → All P ys
all-right P xs ys all = λ k d inside. subst P (get_or-append-add xs ys k d) (all (length xs + k) d (omega (arith, inside, length-append xs ys)))

pub pairs-right : {X : Type 0} (R : X → X → Type 0) (xs ys : List X) → AllPairs R (xs ++ ys) → AllPairs R ys
pairs-right R [] ys all = all
pairs-right R (x ∷ more) ys all = pairs-right R more ys (pairs_tail R x (more ++ ys) all)

pub pairs-across : {X : Type 0} (R : X → X → Type 0) (xs ys : List X) → AllPairs R (xs ++ ys) → All (λ x. All (R x) ys) xs
pairs-across R [] ys all = All-nil (λ x. All (R x) ys)
pairs-across R (x ∷ more) ys all =
    All-cons (λ z. All (R z) ys) x more (all-right (R x) more ys (pairs_head R x (more ++ ys) all)) (pairs-across R more ys (pairs_tail R x (more ++ ys) all))

pub pairs-append : {X : Type 0} (R : X → X → Type 0) (xs ys : List X) → AllPairs R xs → AllPairs R ys → All (λ x. All (R x) ys) xs → AllPairs R (xs ++ ys)
pairs-append R [] ys left right across = right
pairs-append R (x ∷ more) ys left right across =
    AllPairs-cons R x (more ++ ys) (All-append (R x) more ys (pairs_head R x more left) (All-head (λ z. All (R z) ys) x more across))
    (pairs-append R more ys (pairs_tail R x more left) right (All-tail (λ z. All (R z) ys) x more across))

-- ---- the pairs of a list

-- a pair with this first member, and a pair of what two members give
abbrev pub beside : ℕ → ℕ → ℕ × ℕ
beside x q = (x, q)

abbrev pub both_by : (ℕ → ℕ) → ℕ × ℕ → ℕ × ℕ
both_by f p = (f p.0, f p.1)

pub related-pairs : (R : ℕ → ℕ → Type 0) (xs : List ℕ) → AllPairs R xs → All (λ (p : ℕ × ℕ). R p.0 p.1) (pairs_of xs)
related-pairs R [] all = All-nil (λ (p : ℕ × ℕ). R p.0 p.1)
related-pairs R (x ∷ more) all =
    All-append (λ (p : ℕ × ℕ). R p.0 p.1) (map (beside x) more) (pairs_of more)
    (All-map (λ (p : ℕ × ℕ). R p.0 p.1) (beside x) more (pairs_head R x more all)) (related-pairs R more (pairs_tail R x more all))

pub each-of-pairs : (P : ℕ → Type 0) (xs : List ℕ) → All P xs → All (λ (p : ℕ × ℕ). P p.0 × P p.1) (pairs_of xs)
each-of-pairs P [] all = All-nil (λ (p : ℕ × ℕ). P p.0 × P p.1)
each-of-pairs P (x ∷ more) all =
    let first = All-head P x more all in
    let rest = All-tail P x more all in
    All-append (λ (p : ℕ × ℕ). P p.0 × P p.1) (map (beside x) more) (pairs_of more)
    (All-map (λ (p : ℕ × ℕ). P p.0 × P p.1) (beside x) more (All-weaker P (λ q. P x × P q) (λ q h. (first, h)) more rest)) (each-of-pairs P more rest)

pub pairs-map : (f : ℕ → ℕ) (xs : List ℕ) → pairs_of (map f xs) ≡ map (both_by f) (pairs_of xs)
pairs-map f [] = refl
pairs-map f (x ∷ more) =
    ap (λ ps. ps ++ pairs_of (map f more)) (map-map (beside (f x)) f more ∙ sym (map-map (both_by f) (beside x) more))
    ∙ ap (λ ps. map (both_by f) (map (beside x) more) ++ ps) (pairs-map f more)
    ∙ sym (map-append (both_by f) (map (beside x) more) (pairs_of more))

-- a list by its places
pub by-places : (xs : List ℕ) → map (λ i. get_or xs i 0) (range_with_len 0 (length xs)) ≡ xs
by-places xs =
    let long : length (map (λ i. get_or xs i 0) (range_with_len 0 (length xs))) ≡ length xs = length-map (range_with_len 0 (length xs)) (λ i. get_or xs i 0) ∙ length-range_with_len 0 (length xs) in
    ext_get_or 0 (map (λ i. get_or xs i 0) (range_with_len 0 (length xs))) xs long
    (λ i inside. get_or-map (λ k. get_or xs k 0) (range_with_len 0 (length xs)) i 0 0 (omega (arith, inside, long, length-range_with_len 0 (length xs)))
    ∙ ap (λ k. get_or xs k 0) (range_at 0 (length xs) i (omega (arith, inside, long)) ∙ omega arith))

pub places-below : (a n : ℕ) → All (λ i. i < a + n) (range_with_len a n)
places-below a zero = All-nil (λ i. i < a + 0)
places-below a (suc n) =
    All-cons (λ i. i < a + suc n) a (range_with_len (a + 1) n) (omega arith) (All-weaker (λ i. i < a + 1 + n) (λ i. i < a + suc n) (λ i h. omega (arith, h)) (range_with_len (a + 1) n) (places-below (a + 1) n))

square : (m l n k : ℕ) → 2 * l + m ≡ m * m → k ≡ n + l → n ≡ m → 2 * k + suc m ≡ suc m * suc m
square m l n k before all first = omega (arith, before, all, first)

-- how many there are
pub count-twice : (xs : List ℕ) → 2 * length (pairs_of xs) + length xs ≡ length xs * length xs
count-twice [] = omega arith
count-twice (x ∷ more) =
    let m = length more in
    let l = length (pairs_of more) in
    square m l (length (map (beside x) more)) (length (pairs_of (x ∷ more))) (count-twice more) (length-append (map (beside x) more) (pairs_of more)) (length-map more (beside x))

half : (l m : ℕ) → 2 * l ≡ m → l ≡ m / 2
half l m h = omega (arith, h)

half-of : (n l : ℕ) → 2 * l + n ≡ n * n → l ≡ n * (n - 1) / 2
half-of zero l h = omega (arith, h)
half-of (suc n) l h =
    let last : suc n - 1 ≡ n = omega arith in
    let twice : 2 * l ≡ suc n * n = omega (arith, h) in
    half l (suc n * n) twice ∙ ap (λ k. suc n * k / 2) (sym last)

pub pair-count : (xs : List ℕ) → length (pairs_of xs) ≡ length xs * (length xs - 1) / 2
pair-count xs = half-of (length xs) (length (pairs_of xs)) (count-twice xs)
