-- Rows of words as lists of facts.
use Rattle.std.proofs.Common.{◌≡◌, ℕ, zero, suc, ◌+◌, ◌-◌, ◌*◌, ◌/◌, ◌%◌, ◌^◌, ◌<◌, ◌≤◌, inl, inr, Bool, true, false, cond, List, [], ◌∷◌, ◌++◌, length, refl, ap, sym, ◌∙◌, arith}
use Rattle.std.specs.Prelude.{get_or, set, replicate, count_by, drop, zip, ◌||◌, bit_and, bit_or, count_ones}
use Rattle.std.specs.Int.{bit_not, w64}
use Rattle.std.proofs.lemmas.Bool.{cases_lt}
use Rattle.std.proofs.lemmas.Nat.{and_le_l, or_lt}
use Rattle.std.proofs.lemmas.List.{drop_all, drop_more, get_or_append_left, get_or-append_right, length-append, replicate-append-replicate, set-append_left, set-append_right}
use Rattle.std.proofs.lemmas.List.Sums.{count_by-le-length, sum_by-append}
use Rattle.compound_bits.specs.Bits.{facts_of, with_bit, with_bit_if, word_facts}
use Rattle.compound_bits.specs.Facts.{Fact, both_hold, decided_count, both_hold_count, no_fact, one_is_refuted, fact_seen}
use Rattle.compound_bits.proofs.Words.{decided_word, decided-word, holding-word, length-word, no-facts, seen-word, with_one}

pub length-facts : (truth known : List ℕ) → length truth ≡ length known → length (facts_of truth known) ≡ 64 * length truth
unfolding facts_of
length-facts [] known same = omega arith
length-facts (t ∷ truth) [] same = absurd (omega (arith, same))
length-facts (t ∷ truth) (k ∷ known) same =
    omega (arith, length-append (word_facts t k) (facts_of truth known), length-word t k, length-facts truth known (omega (arith, same)))

pub facts-none : (n : ℕ) → facts_of (replicate n 0) (replicate n 0) ≡ replicate (64 * n) no_fact
unfolding facts_of
facts-none zero = refl
facts-none (suc n) =
    ap (λ fs. fs ++ facts_of (replicate n 0) (replicate n 0)) no-facts
    ∙ ap (λ fs. replicate 64 no_fact ++ fs) (facts-none n)
    ∙ replicate-append-replicate 64 (64 * n) no_fact
    ∙ ap (λ k. replicate k no_fact) (omega arith)

-- ---- one more sight

first-word : (place w : ℕ) (more : List ℕ) → place < 64 → with_bit place (w ∷ more) ≡ bit_or w (2 ^ place) ∷ more
first-word place w more h =
    let row : place / 64 ≡ 0 = omega arith in
    let column : place % 64 ≡ place = omega arith in
    ap (λ i. set (w ∷ more) i (bit_or (get_or (w ∷ more) i 0) (2 ^ (place % 64)))) row ∙ ap (λ j. bit_or w (2 ^ j) ∷ more) column

later-word : (place w : ℕ) (more : List ℕ) → 64 ≤ place → with_bit place (w ∷ more) ≡ w ∷ with_bit (place - 64) more
later-word place w more h =
    let row : place / 64 ≡ suc ((place - 64) / 64) = omega arith in
    let column : place % 64 ≡ (place - 64) % 64 = omega arith in
    ap (λ i. set (w ∷ more) i (bit_or (get_or (w ∷ more) i 0) (2 ^ (place % 64)))) row ∙ ap (λ j. w ∷ set more ((place - 64) / 64) (bit_or (get_or more ((place - 64) / 64) 0) (2 ^ j))) column

first-word-if : (wanted : Bool) (place w : ℕ) (more : List ℕ) → place < 64 → with_bit_if wanted place (w ∷ more) ≡ with_one wanted place w ∷ more
first-word-if true place w more h = first-word place w more h
first-word-if false place w more h = refl

later-word-if : (wanted : Bool) (place w : ℕ) (more : List ℕ) → 64 ≤ place → with_bit_if wanted place (w ∷ more) ≡ w ∷ with_bit_if wanted (place - 64) more
later-word-if true place w more h = later-word place w more h
later-word-if false place w more h = refl

pub seen-facts : (wanted : Bool) (place : ℕ) (truth known : List ℕ) → length truth ≡ length known → place < 64 * length truth
    → facts_of (with_bit_if wanted place truth) (with_bit place known) ≡ set (facts_of truth known) place (fact_seen wanted (get_or (facts_of truth known) place no_fact))
unfolding facts_of
seen-facts wanted place [] known same h = absurd (omega (arith, h))
seen-facts wanted place (t ∷ truth) [] same h = absurd (omega (arith, same))
seen-facts wanted place (t ∷ truth) (k ∷ known) same h =
    let word = word_facts t k in
    let rest = facts_of truth known in
    elim (cases_lt place 64) [
      | inl here ↦
          let inside : place < length word = omega (arith, length-word t k) in
          let fact = sym (ap (fact_seen wanted) (get_or_append_left word rest no_fact place inside)) in
          ap (λ ts. facts_of ts (with_bit place (k ∷ known))) (first-word-if wanted place t truth here)
          ∙ ap (λ ks. facts_of (with_one wanted place t ∷ truth) ks) (first-word place k known here)
          ∙ ap (λ fs. fs ++ rest) (seen-word wanted t k place here)
          ∙ sym (set-append_left word rest place (fact_seen wanted (get_or word place no_fact)) inside)
          ∙ ap (λ (f : Fact). set (word ++ rest) place f) fact
      | inr there ↦
          let fact = sym (ap (fact_seen wanted) (get_or-append_right word rest 64 place no_fact (length-word t k) there)) in
          ap (λ ts. facts_of ts (with_bit place (k ∷ known))) (later-word-if wanted place t truth there)
          ∙ ap (λ ks. facts_of (t ∷ with_bit_if wanted (place - 64) truth) ks) (later-word place k known there)
          ∙ ap (λ fs. word ++ fs) (seen-facts wanted (place - 64) truth known (omega (arith, same)) (omega (arith, h)))
          ∙ sym (set-append_right word rest 64 place (fact_seen wanted (get_or rest (place - 64) no_fact)) (length-word t k) there)
          ∙ ap (λ (f : Fact). set (word ++ rest) place f) fact
    ]

-- ---- two rows, a word on

zip-append : (xs ys more others : List Fact) → length xs ≡ length ys → zip (xs ++ more) (ys ++ others) ≡ zip xs ys ++ zip more others
zip-append [] [] more others same = refl
zip-append [] (y ∷ ys) more others same = absurd (omega (arith, same))
zip-append (x ∷ xs) [] more others same = absurd (omega (arith, same))
zip-append (x ∷ xs) (y ∷ ys) more others same = ap (λ ps. (x, y) ∷ ps) (zip-append xs ys more others (omega (arith, same)))

count-append : (test : Fact × Fact → Bool) (xs ys more others : List Fact) → length xs ≡ length ys → count_by test (zip (xs ++ more) (ys ++ others)) ≡ count_by test (zip xs ys) + count_by test (zip more others)
count-append test xs ys more others same = ap (count_by test) (zip-append xs ys more others same) ∙ sum_by-append (λ (p : Fact × Fact). cond (test p) 1 0) (zip xs ys) (zip more others)

-- the four words at a place of the two rows
abbrev pub holding_in : List ℕ → List ℕ → List ℕ → List ℕ → ℕ
holding_in lt lk rt rk = both_hold_count (facts_of lt lk) (facts_of rt rk)

abbrev pub decided_in : List ℕ → List ℕ → List ℕ → List ℕ → ℕ
decided_in lt lk rt rk = decided_count (facts_of lt lk) (facts_of rt rk)

pub holding-on : (lt lk rt rk : ℕ) (lts lks rts rks : List ℕ) → bit_and lt rt < 2 ^ 64
    → holding_in (lt ∷ lts) (lk ∷ lks) (rt ∷ rts) (rk ∷ rks) ≡ count_ones (bit_and lt rt) + holding_in lts lks rts rks
unfolding facts_of
holding-on lt lk rt rk lts lks rts rks small =
    count-append (λ (p : Fact × Fact). both_hold p.0 p.1) (word_facts lt lk) (word_facts rt rk) (facts_of lts lks) (facts_of rts rks) (length-word lt lk ∙ sym (length-word rt rk))
    ∙ ap (λ n. n + holding_in lts lks rts rks) (sym (holding-word lt lk rt rk small))

pub decided-on : (lt lk rt rk : ℕ) (lts lks rts rks : List ℕ) → lt < 2 ^ 64 → rt < 2 ^ 64 → decided_word lt lk rt rk < 2 ^ 64
    → decided_in (lt ∷ lts) (lk ∷ lks) (rt ∷ rts) (rk ∷ rks) ≡ count_ones (decided_word lt lk rt rk) + decided_in lts lks rts rks
unfolding facts_of
decided-on lt lk rt rk lts lks rts rks left right small =
    count-append (λ (p : Fact × Fact). both_hold p.0 p.1 || one_is_refuted p.0 p.1) (word_facts lt lk) (word_facts rt rk) (facts_of lts lks) (facts_of rts rks) (length-word lt lk ∙ sym (length-word rt rk))
    ∙ ap (λ n. n + decided_in lts lks rts rks) (sym (decided-word lt lk rt rk left right small))

-- no count is above the places
length-zip : (xs ys : List Fact) → length (zip xs ys) ≤ length xs
length-zip [] ys = omega arith
length-zip (x ∷ xs) [] = omega arith
length-zip (x ∷ xs) (y ∷ ys) = omega (arith, length-zip xs ys)

pub holding-few : (left right : List Fact) → both_hold_count left right ≤ length left
holding-few left right = omega (arith, length-zip left right, count_by-le-length (λ (p : Fact × Fact). both_hold p.0 p.1) (zip left right))

pub decided-few : (left right : List Fact) → decided_count left right ≤ length left
decided-few left right = omega (arith, length-zip left right, count_by-le-length (λ (p : Fact × Fact). both_hold p.0 p.1 || one_is_refuted p.0 p.1) (zip left right))

decided_word-lt : (t k t' k' : ℕ) → t < 2 ^ 64 → k < 2 ^ 64 → k' < 2 ^ 64 → decided_word t k t' k' < 2 ^ 64
decided_word-lt t k t' k' small known known' =
    or_lt 64 (bit_or (bit_and t t') (bit_and k (bit_not w64 t))) (bit_and k' (bit_not w64 t'))
    (or_lt 64 (bit_and t t') (bit_and k (bit_not w64 t)) (omega (arith, small, and_le_l t t')) (omega (arith, known, and_le_l k (bit_not w64 t))))
    (omega (arith, known', and_le_l k' (bit_not w64 t')))

-- the word at a place, and then the rest
pub holding-step : (lt lk rt rk : List ℕ) (w : ℕ) → length lk ≡ length lt → length rt ≡ length lt → length rk ≡ length lt → w < length lt
    → get_or lt w 0 < 2 ^ 64 → holding_in (drop w lt) (drop w lk) (drop w rt) (drop w rk) ≡ count_ones (bit_and (get_or lt w 0) (get_or rt w 0)) + holding_in (drop (w + 1) lt) (drop (w + 1) lk) (drop (w + 1) rt) (drop (w + 1) rk)
holding-step lt lk rt rk w a b d h left =
    ap (λ xs. holding_in xs (drop w lk) (drop w rt) (drop w rk)) (drop_more lt w 0 h)
    ∙ ap (λ xs. holding_in (get_or lt w 0 ∷ drop (w + 1) lt) xs (drop w rt) (drop w rk)) (drop_more lk w 0 (omega arith))
    ∙ ap (λ xs. holding_in (get_or lt w 0 ∷ drop (w + 1) lt) (get_or lk w 0 ∷ drop (w + 1) lk) xs (drop w rk)) (drop_more rt w 0 (omega arith))
    ∙ ap (λ xs. holding_in (get_or lt w 0 ∷ drop (w + 1) lt) (get_or lk w 0 ∷ drop (w + 1) lk) (get_or rt w 0 ∷ drop (w + 1) rt) xs) (drop_more rk w 0 (omega arith))
    ∙ holding-on (get_or lt w 0) (get_or lk w 0) (get_or rt w 0) (get_or rk w 0) (drop (w + 1) lt) (drop (w + 1) lk) (drop (w + 1) rt) (drop (w + 1) rk) (omega (arith, left, and_le_l (get_or lt w 0) (get_or rt w 0)))

pub decided-step : (lt lk rt rk : List ℕ) (w : ℕ) → length lk ≡ length lt → length rt ≡ length lt → length rk ≡ length lt → w < length lt
    → get_or lt w 0 < 2 ^ 64 → get_or lk w 0 < 2 ^ 64 → get_or rt w 0 < 2 ^ 64 → get_or rk w 0 < 2 ^ 64
    → decided_in (drop w lt) (drop w lk) (drop w rt) (drop w rk)
    ≡ count_ones (decided_word (get_or lt w 0) (get_or lk w 0) (get_or rt w 0) (get_or rk w 0)) + decided_in (drop (w + 1) lt) (drop (w + 1) lk) (drop (w + 1) rt) (drop (w + 1) rk)
decided-step lt lk rt rk w a b d h left left_known right right_known =
    ap (λ xs. decided_in xs (drop w lk) (drop w rt) (drop w rk)) (drop_more lt w 0 h)
    ∙ ap (λ xs. decided_in (get_or lt w 0 ∷ drop (w + 1) lt) xs (drop w rt) (drop w rk)) (drop_more lk w 0 (omega arith))
    ∙ ap (λ xs. decided_in (get_or lt w 0 ∷ drop (w + 1) lt) (get_or lk w 0 ∷ drop (w + 1) lk) xs (drop w rk)) (drop_more rt w 0 (omega arith))
    ∙ ap (λ xs. decided_in (get_or lt w 0 ∷ drop (w + 1) lt) (get_or lk w 0 ∷ drop (w + 1) lk) (get_or rt w 0 ∷ drop (w + 1) rt) xs) (drop_more rk w 0 (omega arith))
    ∙ decided-on (get_or lt w 0) (get_or lk w 0) (get_or rt w 0) (get_or rk w 0) (drop (w + 1) lt) (drop (w + 1) lk) (drop (w + 1) rt) (drop (w + 1) rk) left right (decided_word-lt (get_or lt w 0) (get_or lk w 0) (get_or rt w 0) (get_or rk w 0) left left_known right_known)

-- and no word is left at the end
pub holding-end : (lt lk rt rk : List ℕ) (w : ℕ) → length lt ≤ w → holding_in (drop w lt) (drop w lk) (drop w rt) (drop w rk) ≡ 0
unfolding facts_of
holding-end lt lk rt rk w h = ap (λ xs. holding_in xs (drop w lk) (drop w rt) (drop w rk)) (drop_all w lt h)

pub decided-end : (lt lk rt rk : List ℕ) (w : ℕ) → length lt ≤ w → decided_in (drop w lt) (drop w lk) (drop w rt) (drop w rk) ≡ 0
unfolding facts_of
decided-end lt lk rt rk w h = ap (λ xs. decided_in xs (drop w lk) (drop w rt) (drop w rk)) (drop_all w lt h)
