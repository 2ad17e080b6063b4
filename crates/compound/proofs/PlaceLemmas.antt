-- The pairs of places.
use Rattle.std.proofs.Common.{◌≡◌, ℕ, zero, suc, ◌+◌, ◌-◌, ◌*◌, ◌<◌, ◌≤◌, List, [], ◌∷◌, ◌++◌, map, sym, ap, ◌∙◌, append_assoc, arith}
use Rattle.std.specs.Prelude.{All, get_or, length, take}
use Rattle.std.specs.List.{range_with_len}
use Rattle.std.proofs.Math.Nat.{mul-le-mul}
use Rattle.std.proofs.lemmas.List.{append-nil, length-map, map-append, map_more, take-map}
use Rattle.std.proofs.lemmas.List.Elements.{All-weaker}
use Rattle.compound.specs.Pairs.{pairs_of}
use Rattle.compound.proofs.PairLists.{beside, by-places, count-twice, each-of-pairs, pairs-map, places-below}

range-first : (a n : ℕ) → 0 < n → range_with_len a n ≡ a ∷ range_with_len (a + 1) (n - 1)
range-first a n some = let more : n ≡ suc (n - 1) = omega arith in ap (range_with_len a) more

-- the pairs of one place more
pub pairs-more : (pairs new : List (ℕ × ℕ)) (left count : ℕ) → left < count → new ≡ pairs ++ map (beside left) (range_with_len (left + 1) (count - (left + 1)))
    → pairs ++ pairs_of (range_with_len left (count - left)) ≡ pairs_of (range_with_len 0 count) → new ++ pairs_of (range_with_len (left + 1) (count - (left + 1))) ≡ pairs_of (range_with_len 0 count)
pairs-more pairs new left count less made so_far =
    let rest = range_with_len (left + 1) (count - (left + 1)) in
    let last : count - left - 1 ≡ count - (left + 1) = omega arith in
    let split : range_with_len left (count - left) ≡ left ∷ rest = range-first left (count - left) (omega arith) ∙ ap (λ n. left ∷ range_with_len (left + 1) n) last in
    ap (λ ps. ps ++ pairs_of rest) made ∙ append_assoc pairs (map (beside left) rest) (pairs_of rest) ∙ ap (λ xs. pairs ++ pairs_of xs) (sym split) ∙ so_far

pub pairs-end : (pairs : List (ℕ × ℕ)) (left count : ℕ) → count ≤ left → pairs ++ pairs_of (range_with_len left (count - left)) ≡ pairs_of (range_with_len 0 count) → pairs ≡ pairs_of (range_with_len 0 count)
pairs-end pairs left count most so_far =
    let none : count - left ≡ 0 = omega arith in
    sym (ap (λ n. pairs ++ pairs_of (range_with_len left n)) none ∙ append-nil pairs) ∙ so_far

-- ---- the pairs of one place, one on

-- one place with those from the next one up to another
abbrev row_of : ℕ → ℕ → List (ℕ × ℕ)
row_of left right = map (beside left) (range_with_len (left + 1) (right - (left + 1)))

range-last : (a n : ℕ) → range_with_len a (n + 1) ≡ range_with_len a n ++ (a + n) ∷ []
range-last a zero = let here : a ≡ a + 0 = omega arith in ap (λ x. x ∷ []) here
range-last a (suc n) =
    let next : a + 1 + n ≡ a + suc n = omega arith in
    let more : suc n + 1 ≡ suc (n + 1) = omega arith in
    ap (range_with_len a) more ∙ ap (λ xs. a ∷ xs) (range-last (a + 1) n) ∙ ap (λ x. a ∷ (range_with_len (a + 1) n ++ x ∷ [])) next

pub row-none : (left : ℕ) (pairs : List (ℕ × ℕ)) → pairs ≡ pairs ++ row_of left (left + 1)
row-none left pairs =
    let none : left + 1 - (left + 1) ≡ 0 = omega arith in
    sym (ap (λ n. pairs ++ map (beside left) (range_with_len (left + 1) n)) none ∙ append-nil pairs)

pub row-more : (left right : ℕ) (pairs mid new : List (ℕ × ℕ)) → left + 1 ≤ right → new ≡ mid ++ (left, right) ∷ [] → mid ≡ pairs ++ row_of left right → new ≡ pairs ++ row_of left (right + 1)
row-more left right pairs mid new from made so_far =
    let steps : right + 1 - (left + 1) ≡ right - (left + 1) + 1 = omega arith in
    let last : left + 1 + (right - (left + 1)) ≡ right = omega arith in
    let longer : row_of left (right + 1) ≡ row_of left right ++ (left, right) ∷ [] =
    ap (λ n. map (beside left) (range_with_len (left + 1) n)) steps ∙ ap (map (beside left)) (range-last (left + 1) (right - (left + 1)))
    ∙ map-append (beside left) (range_with_len (left + 1) (right - (left + 1))) ((left + 1 + (right - (left + 1))) ∷ []) ∙ ap (λ k. row_of left right ++ (left, k) ∷ []) last in
    made ∙ ap (λ ps. ps ++ (left, right) ∷ []) so_far ∙ append_assoc pairs (row_of left right) ((left, right) ∷ []) ∙ ap (λ ps. pairs ++ ps) (sym longer)

pub row-end : (left count right : ℕ) (pairs mid : List (ℕ × ℕ)) → right ≡ count → mid ≡ pairs ++ row_of left right → mid ≡ pairs ++ row_of left count
row-end left count right pairs mid last so_far = so_far ∙ ap (λ k. pairs ++ row_of left k) last

-- ---- pairs of places as pairs of what stands there

-- the pair that stands at two places of a list
abbrev pub pair_at : List ℕ → ℕ × ℕ → ℕ × ℕ
pair_at xs p = (get_or xs p.0 0, get_or xs p.1 0)

pub pairs-by-places : (xs : List ℕ) (n : ℕ) (places : List (ℕ × ℕ)) → n ≡ length xs → places ≡ pairs_of (range_with_len 0 n) → pairs_of xs ≡ map (pair_at xs) places
pairs-by-places xs n places as_many are =
    ap pairs_of (sym (by-places xs)) ∙ pairs-map (λ i. get_or xs i 0) (range_with_len 0 (length xs))
    ∙ ap (λ k. map (pair_at xs) (pairs_of (range_with_len 0 k))) (sym as_many) ∙ ap (map (pair_at xs)) (sym are)

pub pairs-step : (xs : List ℕ) (n i : ℕ) (places : List (ℕ × ℕ)) (p : ℕ × ℕ) → n ≡ length xs → places ≡ pairs_of (range_with_len 0 n) → i < length places → get_or places i p ≡ p
    → take (i + 1) (pairs_of xs) ≡ take i (pairs_of xs) ++ pair_at xs p ∷ []
pairs-step xs n i places p as_many are inside at =
    let whole = pairs-by-places xs n places as_many are in
    ap (take (i + 1)) whole ∙ take-map (pair_at xs) (i + 1) places ∙ map_more (pair_at xs) places i p inside
    ∙ ap (λ ps. ps ++ pair_at xs (get_or places i p) ∷ []) (sym (take-map (pair_at xs) i places) ∙ ap (take i) (sym whole))
    ∙ ap (λ (q : ℕ × ℕ). take i (pairs_of xs) ++ pair_at xs q ∷ []) at

pub pairs-length : (xs : List ℕ) (n : ℕ) (places : List (ℕ × ℕ)) → n ≡ length xs → places ≡ pairs_of (range_with_len 0 n) → length places ≡ length (pairs_of xs)
pairs-length xs n places as_many are = sym (ap length (pairs-by-places xs n places as_many are) ∙ length-map places (pair_at xs))

pub pairs-within : (n : ℕ) → All (λ (p : ℕ × ℕ). (p.0 < n) × (p.1 < n)) (pairs_of (range_with_len 0 n))
pairs-within n =
    each-of-pairs (λ i. i < n) (range_with_len 0 n) (All-weaker (λ i. i < 0 + n) (λ i. i < n) (λ i h. omega (arith, h)) (range_with_len 0 n) (places-below 0 n))

pub pairs-few : (xs : List ℕ) → length xs ≤ 1000 → length (pairs_of xs) ≤ 500000
pairs-few xs few =
    let square : length xs * length xs ≤ 1000 * 1000 = mul-le-mul few few in
    omega (arith, square, count-twice xs)
