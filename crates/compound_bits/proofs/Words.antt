-- What words say of their 64 places.
use Rattle.std.proofs.Common.{◌≡◌, ℕ, zero, suc, ◌+◌, ◌-◌, ◌^◌, ◌<◌, ◌≤◌, Bool, true, false, cond, List, [], ◌∷◌, length, map, refl, ap, sym, subst, ◌∙◌, arith}
use Rattle.std.specs.Prelude.{◌==◌, ◌&&◌, ◌||◌, not, ◌≢◌, get_or, set, replicate, count_by, zip, bit_and, bit_or, count_ones, min, max, if◌then◌else◌}
use Rattle.std.specs.Int.{bit_at, bit_not, w64}
use Rattle.std.specs.List.{range_with_len}
use Rattle.std.proofs.lemmas.Bool.Decides.{nat_tests}
use Rattle.std.proofs.lemmas.List.{length-map, get_or-map}
use Rattle.std.proofs.lemmas.List.Sums.{sum_by-cons}
use Rattle.std.proofs.lemmas.Nat.Bits.{bit_at_and, bit_at_or, bit_at_not, bit_at-lt, bit_at-zero, bit_at-pow_same, bit_at-pow_other, same_from_bits_below}
use Rattle.std.proofs.lemmas.Simd.{mask_l-lt, bit_mask_l, ones-mask_l}
use Rattle.std.proofs.lemmas.List.FromFn.{length-range_with_len}
use Rattle.base_lists.proofs.Tests.{or_false, or_true}
use Rattle.base_lists.proofs.Lists.{range_at}
use lib.Lanes.{mask_l}
use Rattle.compound_bits.specs.Bits.{is_bit_set, fact_at, word_facts}
use Rattle.compound_bits.specs.Facts.{Fact, both_hold, decided_count, both_hold_count, no_fact, one_is_refuted, fact_seen}

-- ---- places in a row

count-agree : (p q : ℕ → Bool) (a n : ℕ) → ((i : ℕ) → i < a + n → p i ≡ q i) → count_by p (range_with_len a n) ≡ count_by q (range_with_len a n)
count-agree p q a zero same = refl
count-agree p q a (suc n) same =
    sum_by-cons (λ i. cond (p i) 1 0) a (range_with_len (a + 1) n)
    ∙ ap (λ b. cond b 1 0 + count_by p (range_with_len (a + 1) n)) (same a (omega arith))
    ∙ ap (λ k. cond (q a) 1 0 + k) (count-agree p q (a + 1) n (λ i h. same i (omega arith)))
    ∙ sym (sum_by-cons (λ i. cond (q i) 1 0) a (range_with_len (a + 1) n))

count-zip : (test : Fact × Fact → Bool) (f g : ℕ → Fact) (places : List ℕ) → count_by test (zip (map f places) (map g places)) ≡ count_by (λ i. test (f i, g i)) places
count-zip test f g [] = refl
count-zip test f g (i ∷ more) =
    sum_by-cons (λ (p : Fact × Fact). cond (test p) 1 0) (f i, g i) (zip (map f more) (map g more))
    ∙ ap (λ k. cond (test (f i, g i)) 1 0 + k) (count-zip test f g more)
    ∙ sym (sum_by-cons (λ j. cond (test (f j, g j)) 1 0) i more)

pub map-same : (f : ℕ → Fact) (v : Fact) (a n : ℕ) → ((i : ℕ) → f i ≡ v) → map f (range_with_len a n) ≡ replicate n v
map-same f v a zero same = refl
map-same f v a (suc n) same = ap (λ x. x ∷ map f (range_with_len (a + 1) n)) (same a) ∙ ap (λ xs. v ∷ xs) (map-same f v (a + 1) n same)

map-agree : (f g : ℕ → Fact) (a n : ℕ) → ((i : ℕ) → a ≤ i → f i ≡ g i) → map f (range_with_len a n) ≡ map g (range_with_len a n)
map-agree f g a zero same = refl
map-agree f g a (suc n) same = ap (λ x. x ∷ map f (range_with_len (a + 1) n)) (same a (omega arith)) ∙ ap (λ xs. g a ∷ xs) (map-agree f g (a + 1) n (λ i h. same i (omega arith)))

-- a function that differs at one place
map-set : (f g : ℕ → Fact) (v : Fact) (a n m : ℕ) → m < n → f (a + m) ≡ v → ((i : ℕ) → i ≢ a + m → f i ≡ g i) → map f (range_with_len a n) ≡ set (map g (range_with_len a n)) m v
map-set f g v a zero m h at others = absurd (omega arith)
map-set f g v a (suc n) zero h at others =
    let here : f a ≡ v = subst (λ i. f i ≡ v) (omega arith) at in
    ap (λ x. x ∷ map f (range_with_len (a + 1) n)) here ∙ ap (λ xs. v ∷ xs) (map-agree f g (a + 1) n (λ i later. others i (λ e. omega arith)))
map-set f g v a (suc n) (suc m) h at others =
    let first : f a ≡ g a = others a (λ e. omega arith) in
    let next : f (a + 1 + m) ≡ v = subst (λ i. f i ≡ v) (omega arith) at in
    ap (λ x. x ∷ map f (range_with_len (a + 1) n)) first ∙ ap (λ xs. g a ∷ xs) (map-set f g v (a + 1) n m (omega arith) next (λ i other. others i (λ e. other (omega arith))))

-- ---- a word and its bits

mask-of-bits : (w n : ℕ) → w < 2 ^ n → mask_l (map (is_bit_set w) (range_with_len 0 n)) ≡ w
mask-of-bits w n small =
    let ms = map (is_bit_set w) (range_with_len 0 n) in
    let long : length ms ≡ n = length-map (range_with_len 0 n) (is_bit_set w) ∙ length-range_with_len 0 n in
    same_from_bits_below n (mask_l ms) w (subst (λ k. mask_l ms < 2 ^ k) long (mask_l-lt ms)) small
    (λ i h. bit_mask_l ms i ∙ ap (λ b. cond b 1 0) (at w n i h) ∙ as_number (bit_at w i) (bit_at-lt w i))
  where
    at : (w n i : ℕ) → i < n → get_or (map (is_bit_set w) (range_with_len 0 n)) i false ≡ is_bit_set w i
    at w n i h =
        get_or-map (is_bit_set w) (range_with_len 0 n) i 0 false (subst (λ k. i < k) (sym (length-range_with_len 0 n)) h)
        ∙ ap (is_bit_set w) (range_at 0 n i h ∙ omega arith)

    as_number : (x : ℕ) → x < 2 → cond (x == 1) 1 0 ≡ x
    as_number x h = grind (arith, nat_tests)

ones-word : (w : ℕ) → w < 2 ^ 64 → count_ones w ≡ count_by (is_bit_set w) (range_with_len 0 64)
ones-word w small = sym (ap count_ones (mask-of-bits w 64 small)) ∙ ones-mask_l (is_bit_set w) (range_with_len 0 64)

bit-and : (x y i : ℕ) → is_bit_set (bit_and x y) i ≡ is_bit_set x i && is_bit_set y i
bit-and x y i = ap (λ b. b == 1) (bit_at_and x y i) ∙ least (bit_at x i) (bit_at y i) (bit_at-lt x i) (bit_at-lt y i)
  where
    least : (a b : ℕ) → a < 2 → b < 2 → (min a b == 1) ≡ (a == 1) && (b == 1)
    least a b h k = grind (arith, nat_tests)

bit-or : (x y i : ℕ) → is_bit_set (bit_or x y) i ≡ is_bit_set x i || is_bit_set y i
bit-or x y i = ap (λ b. b == 1) (bit_at_or x y i) ∙ greatest (bit_at x i) (bit_at y i) (bit_at-lt x i) (bit_at-lt y i)
  where
    greatest : (a b : ℕ) → a < 2 → b < 2 → (max a b == 1) ≡ (a == 1) || (b == 1)
    greatest a b h k = grind (arith, nat_tests)

bit-not : (x i : ℕ) → x < 2 ^ 64 → i < 64 → is_bit_set (bit_not w64 x) i ≡ not (is_bit_set x i)
bit-not x i small h = ap (λ b. b == 1) (bit_at_not w64 x i small h) ∙ other (bit_at x i) (bit_at-lt x i)
  where
    other : (a : ℕ) → a < 2 → (1 - a == 1) ≡ not (a == 1)
    other a h = grind (arith, nat_tests)

-- ---- the facts of two words beside those of two others

holding-bits : (t k t' k' n : ℕ) → count_by (is_bit_set (bit_and t t')) (range_with_len 0 n) ≡ both_hold_count (map (fact_at t k) (range_with_len 0 n)) (map (fact_at t' k') (range_with_len 0 n))
holding-bits t k t' k' n =
    count-agree (is_bit_set (bit_and t t')) (λ i. is_bit_set t i && is_bit_set t' i) 0 n (λ i h. bit-and t t' i)
    ∙ sym (count-zip (λ (p : Fact × Fact). both_hold p.0 p.1) (fact_at t k) (fact_at t' k') (range_with_len 0 n))

-- the bits of the places in which both hold or one is refuted
abbrev pub decided_word : ℕ → ℕ → ℕ → ℕ → ℕ
decided_word t k t' k' = bit_or (bit_or (bit_and t t') (bit_and k (bit_not w64 t))) (bit_and k' (bit_not w64 t'))

or-apart : (a b c : Bool) → ((a || b) || c) ≡ (a || (b || c))
or-apart true b c = refl
or-apart false b c = refl

bit-decided : (t k t' k' i : ℕ) → t < 2 ^ 64 → t' < 2 ^ 64 → i < 64 → is_bit_set (decided_word t k t' k') i ≡ both_hold (fact_at t k i) (fact_at t' k' i) || one_is_refuted (fact_at t k i) (fact_at t' k' i)
bit-decided t k t' k' i small small' h =
    let left : is_bit_set (bit_and k (bit_not w64 t)) i ≡ is_bit_set k i && not (is_bit_set t i) = bit-and k (bit_not w64 t) i ∙ ap (λ b. is_bit_set k i && b) (bit-not t i small h) in
    let right : is_bit_set (bit_and k' (bit_not w64 t')) i ≡ is_bit_set k' i && not (is_bit_set t' i) = bit-and k' (bit_not w64 t') i ∙ ap (λ b. is_bit_set k' i && b) (bit-not t' i small' h) in
    bit-or (bit_or (bit_and t t') (bit_and k (bit_not w64 t))) (bit_and k' (bit_not w64 t')) i
    ∙ ap (λ b. b || is_bit_set (bit_and k' (bit_not w64 t')) i) (bit-or (bit_and t t') (bit_and k (bit_not w64 t)) i)
    ∙ ap (λ b. (is_bit_set (bit_and t t') i || is_bit_set (bit_and k (bit_not w64 t)) i) || b) right
    ∙ ap (λ b. (is_bit_set (bit_and t t') i || b) || (is_bit_set k' i && not (is_bit_set t' i))) left
    ∙ ap (λ b. (b || (is_bit_set k i && not (is_bit_set t i))) || (is_bit_set k' i && not (is_bit_set t' i))) (bit-and t t' i)
    ∙ or-apart (is_bit_set t i && is_bit_set t' i) (is_bit_set k i && not (is_bit_set t i)) (is_bit_set k' i && not (is_bit_set t' i))

decided-bits : (t k t' k' n : ℕ) → t < 2 ^ 64 → t' < 2 ^ 64 → n ≤ 64 → count_by (is_bit_set (decided_word t k t' k')) (range_with_len 0 n) ≡ decided_count (map (fact_at t k) (range_with_len 0 n)) (map (fact_at t' k') (range_with_len 0 n))
decided-bits t k t' k' n small small' few =
    count-agree (is_bit_set (decided_word t k t' k')) (λ i. both_hold (fact_at t k i) (fact_at t' k' i) || one_is_refuted (fact_at t k i) (fact_at t' k' i)) 0 n (λ i h. bit-decided t k t' k' i small small' (omega arith))
    ∙ sym (count-zip (λ (p : Fact × Fact). both_hold p.0 p.1 || one_is_refuted p.0 p.1) (fact_at t k) (fact_at t' k') (range_with_len 0 n))

pub holding-word : (t k t' k' : ℕ) → bit_and t t' < 2 ^ 64 → count_ones (bit_and t t') ≡ both_hold_count (word_facts t k) (word_facts t' k')
unfolding word_facts
holding-word t k t' k' small = ones-word (bit_and t t') small ∙ holding-bits t k t' k' 64

pub decided-word : (t k t' k' : ℕ) → t < 2 ^ 64 → t' < 2 ^ 64 → decided_word t k t' k' < 2 ^ 64 → count_ones (decided_word t k t' k') ≡ decided_count (word_facts t k) (word_facts t' k')
unfolding word_facts
decided-word t k t' k' small small' whole = ones-word (decided_word t k t' k') whole ∙ decided-bits t k t' k' 64 small small' (omega arith)

-- ---- one more bit

pub length-word : (t k : ℕ) → length (word_facts t k) ≡ 64
unfolding word_facts
length-word t k = length-map (range_with_len 0 64) (fact_at t k) ∙ length-range_with_len 0 64

pub no-facts : word_facts 0 0 ≡ replicate 64 no_fact
unfolding word_facts
no-facts = map-same (fact_at 0 0) no_fact 0 64 (λ i. ap (λ (b : Bool). record { truth = b; known = b }) (ap (λ x. x == 1) (bit_at-zero i)))

-- the word with a bit more, or as it is
abbrev pub with_one : Bool → ℕ → ℕ → ℕ
with_one wanted j w = if wanted then bit_or w (2 ^ j) else w

one-here : (wanted : Bool) (j w : ℕ) → is_bit_set (with_one wanted j w) j ≡ is_bit_set w j || wanted
one-here true j w = bit-or w (2 ^ j) j ∙ ap (λ x. is_bit_set w j || (x == 1)) (bit_at-pow_same j)
one-here false j w = sym (or_false (is_bit_set w j))

one-there : (wanted : Bool) (j w i : ℕ) → i ≢ j → is_bit_set (with_one wanted j w) i ≡ is_bit_set w i
one-there true j w i other = bit-or w (2 ^ j) i ∙ ap (λ x. is_bit_set w i || (x == 1)) (bit_at-pow_other j i other) ∙ or_false (is_bit_set w i)
one-there false j w i other = refl

pub fact-is : (t t' k k' : Bool) → t ≡ t' → k ≡ k' → ◌≡◌ {A = Fact} (record { truth = t; known = k }) (record { truth = t'; known = k' })
fact-is t t' k k' a b = ap (λ (x : Bool). record { truth = x; known = k }) a ∙ ap (λ (x : Bool). record { truth = t'; known = x }) b

seen-bits : (wanted : Bool) (t k j n : ℕ) → j < n
    → map (fact_at (with_one wanted j t) (with_one true j k)) (range_with_len 0 n) ≡ set (map (fact_at t k) (range_with_len 0 n)) j (fact_seen wanted (fact_at t k j))
seen-bits wanted t k j n h =
    map-set (fact_at (with_one wanted j t) (with_one true j k)) (fact_at t k) (fact_seen wanted (fact_at t k j)) 0 n j h
    (subst (λ i. fact_at (with_one wanted j t) (with_one true j k) i ≡ fact_seen wanted (fact_at t k j)) (omega arith)
    (fact-is (is_bit_set (with_one wanted j t) j) (is_bit_set t j || wanted) (is_bit_set (with_one true j k) j) true (one-here wanted j t) (one-here true j k ∙ or_true (is_bit_set k j))))
    (λ i other. let apart : i ≢ j = λ e. other (omega arith) in
    fact-is (is_bit_set (with_one wanted j t) i) (is_bit_set t i) (is_bit_set (with_one true j k) i) (is_bit_set k i) (one-there wanted j t i apart) (one-there true j k i apart))

pub seen-word : (wanted : Bool) (t k j : ℕ) → j < 64 → word_facts (with_one wanted j t) (with_one true j k) ≡ set (word_facts t k) j (fact_seen wanted (get_or (word_facts t k) j no_fact))
unfolding word_facts
seen-word wanted t k j h =
    let at : get_or (map (fact_at t k) (range_with_len 0 64)) j no_fact ≡ fact_at t k j =
    get_or-map (fact_at t k) (range_with_len 0 64) j 0 no_fact (subst (λ n. j < n) (sym (length-range_with_len 0 64)) h) ∙ ap (fact_at t k) (range_at 0 64 j h ∙ omega arith) in
    seen-bits wanted t k j 64 h ∙ ap (λ (f : Fact). set (map (fact_at t k) (range_with_len 0 64)) j (fact_seen wanted f)) (sym at)
