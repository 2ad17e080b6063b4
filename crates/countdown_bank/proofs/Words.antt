-- How the words of a generator follow one another.
use Rattle.std.proofs.Common.{◌≡◌, ℕ, zero, suc, ◌+◌, refl, ap, ◌∙◌, arith}
use Rattle.rand_pcg.specs.Lcg.{Lcg, next, next_state, state_after}
use Rattle.rand_pcg.specs.Pcg.{multiplier_64, pcg32}
use Rattle.countdown_bank.specs.MadeBank.{after_words, word_after}

-- a step before some steps is one after them
pub next_state-state_after : (w m p n s : ℕ) → next_state w m p (state_after w m p n s) ≡ state_after w m p n (next_state w m p s)
unfolding state_after
next_state-state_after w m p zero s = refl
next_state-state_after w m p (suc n) s = next_state-state_after w m p n (next_state w m p s)

pub state_after-add : (w m p a b s : ℕ) → state_after w m p b (state_after w m p a s) ≡ state_after w m p (a + b) s
unfolding state_after
state_after-add w m p zero b s =
    let sum : b ≡ zero + b = omega arith in
    ap (λ n. state_after w m p n s) sum
state_after-add w m p (suc a) b s =
    let sum : suc (a + b) ≡ suc a + b = omega arith in
    state_after-add w m p a b (next_state w m p s) ∙ ap (λ n. state_after w m p n s) sum

pub state_after-more : (w m p n s : ℕ) → next_state w m p (state_after w m p n s) ≡ state_after w m p (n + 1) s
unfolding state_after
state_after-more w m p n s =
    let more : suc n ≡ n + 1 = omega arith in
    next_state-state_after w m p n s ∙ ap (λ k. state_after w m p k s) more

-- no words leave the generator as it is
pub after_words-zero : (g : Lcg) → after_words 0 g ≡ g
unfolding state_after
after_words-zero g = refl

-- one more word
pub after_words-more : (n : ℕ) (g : Lcg) → next 64 multiplier_64 (after_words n g) ≡ after_words (n + 1) g
after_words-more n g = ap (λ s. let h : Lcg = record g { state = s } in h) (state_after-more 64 multiplier_64 g.increment n g.state)

-- some words, and some more
pub after_words-add : (a b : ℕ) (g : Lcg) → after_words b (after_words a g) ≡ after_words (a + b) g
after_words-add a b g = ap (λ s. let h : Lcg = record g { state = s } in h) (state_after-add 64 multiplier_64 g.increment a b g.state)

-- the next word, and the generator after it
pub word-step : (n m word : ℕ) (g now next : Lcg) → n + 1 ≡ m → now ≡ after_words n g → (word, next) ≡ pcg32 now → (word ≡ word_after g n) × (next ≡ after_words m g)
word-step n m word g now next more is step =
    let here : (word, next) ≡ pcg32 (after_words n g) = step ∙ ap pcg32 is in
    let left : word ≡ word_after g n = ap (λ (p : ℕ × Lcg). p.0) here in
    let right : next ≡ after_words (n + 1) g = ap (λ (p : ℕ × Lcg). p.1) here ∙ after_words-more n g in
    (left, right ∙ ap (λ k. after_words k g) more)

-- a word after some words
pub word_after-add : (a k : ℕ) (g : Lcg) → word_after (after_words a g) k ≡ word_after g (a + k)
word_after-add a k g = ap (λ (h : Lcg). (pcg32 h).0) (after_words-add a k g)

-- some words, then some more
pub after_words-then : (a b : ℕ) (g now next : Lcg) → now ≡ after_words a g → next ≡ after_words b now → next ≡ after_words (a + b) g
after_words-then a b g now next first second = second ∙ ap (after_words b) first ∙ after_words-add a b g
