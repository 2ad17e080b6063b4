-- The numbers that are computed from a generator are those that it makes.
use Rattle.std.proofs.Common.{◌≡◌, ℕ, zero, suc, ◌+◌, ◌-◌, ◌<◌, ◌≤◌, ◌⊎◌, inl, inr, cond, [], ◌∷◌, length, refl, sym, ap, subst, ◌∙◌, arith}
use Rattle.std.proofs.lemmas.Bool.{cases_lt, lt-ltb, le-ltb}
use Rattle.rand_pcg.specs.Lcg.{Lcg}
use Rattle.countdown_bank.specs.Bank.{AreNumbers, bank_of}
use Rattle.countdown_bank.specs.MadeBank.{IsMadeNumber, AreMade, IsMadeBank, after_words, word_after, bound_of, most_words, words_before, number_from, numbers_from}
use Rattle.countdown_bank.proofs.Words.{word_after-add}
use Rattle.countdown_bank.proofs.Made.{AreMade-same, AreMade-countdowns, IsMadeNumber-once}

-- so many words come before the first one below the bound, of so many
record AreBefore (words : ℕ → ℕ) (bound many before : ℕ) : Type 0 where
  pub few : before ≤ many
  pub none : (k : ℕ) → k < before → bound ≤ words k
  pub stops : (words before < bound) ⊎ (before ≡ many)

words_before-none : (many : ℕ) (words : ℕ → ℕ) (bound : ℕ) → words 0 < bound → words_before (suc many) words bound ≡ 0
unfolding words_before
words_before-none many words bound below = ap (λ b. cond b 0 (words_before many (λ k. words (k + 1)) bound + 1)) (lt-ltb (words 0) bound below)

words_before-more : (many : ℕ) (words : ℕ → ℕ) (bound : ℕ) → bound ≤ words 0 → words_before (suc many) words bound ≡ words_before many (λ k. words (k + 1)) bound + 1
unfolding words_before
words_before-more many words bound over = ap (λ b. cond b 0 (words_before many (λ k. words (k + 1)) bound + 1)) (le-ltb (words 0) bound over)

words_before-zero : (words : ℕ → ℕ) (bound : ℕ) → words_before zero words bound ≡ 0
unfolding words_before
words_before-zero words bound = refl

one-more : (words : ℕ → ℕ) (bound before : ℕ) → bound ≤ words 0 → ((k : ℕ) → k < before → bound ≤ words (k + 1)) → (k : ℕ) → k < before + 1 → bound ≤ words k
one-more words bound before first rest zero less = first
one-more words bound before first rest (suc k) less = let here : k + 1 ≡ suc k = omega arith in subst (λ i. bound ≤ words i) here (rest k (omega arith))

AreBefore-more : (many : ℕ) (words : ℕ → ℕ) (bound before : ℕ) → bound ≤ words 0 → AreBefore (λ k. words (k + 1)) bound many before → AreBefore words bound (suc many) (before + 1)
AreBefore-more many words bound before over rest = record {
  few = omega (arith, rest.few);
  none = one-more words bound before over rest.none;
  stops = elim rest.stops [ inl below ↦ inl below | inr all ↦ inr (omega arith) ];
}

words_before-are : (many : ℕ) (words : ℕ → ℕ) (bound : ℕ) → AreBefore words bound many (words_before many words bound)
words_before-are zero words bound =
    subst (AreBefore words bound zero) (sym (words_before-zero words bound)) (record { few = omega arith; none = λ k less. absurd (omega arith); stops = inr refl })
words_before-are (suc many) words bound =
    elim (cases_lt (words 0) bound) [
      | inl below ↦
          subst (AreBefore words bound (suc many)) (sym (words_before-none many words bound below))
          (record { few = omega arith; none = λ k less. absurd (omega arith); stops = inl below })
      | inr over ↦
          subst (AreBefore words bound (suc many)) (sym (words_before-more many words bound over))
          (AreBefore-more many words bound _ over (words_before-are many (λ k. words (k + 1)) bound))
    ]

number-made : (words : ℕ → ℕ) (bound many before : ℕ) → many + 1 ≡ most_words → AreBefore words bound many before → IsMadeNumber words bound (before + 1)
number-made words bound many before most are =
    let place : before ≡ before + 1 - 1 = omega arith in record {
      some = omega arith;
      few = omega (arith, are.few);
      none_before = λ k less. are.none k (omega arith);
      stops = elim are.stops [ inl below ↦ inl (subst (λ i. words i < bound) place below) | inr all ↦ inr (omega arith) ];
    }

pub number_from-made : (words : ℕ → ℕ) (bound : ℕ) → IsMadeNumber words bound (number_from words bound)
number_from-made words bound = number-made words bound (most_words - 1) (words_before (most_words - 1) words bound) refl (words_before-are (most_words - 1) words bound)

pub numbers_from-zero : (bound : ℕ) (g : Lcg) → numbers_from 0 bound g ≡ []
unfolding numbers_from
numbers_from-zero bound g = refl

pub numbers_from-length : (count bound : ℕ) (g : Lcg) → length (numbers_from count bound g) ≡ count
unfolding numbers_from
numbers_from-length zero bound g = refl
numbers_from-length (suc count) bound g = omega (arith, numbers_from-length count bound (after_words (number_from (word_after g) bound) g))

numbers_from-made : (count bound : ℕ) (g : Lcg) → AreMade (word_after g) bound (numbers_from count bound g)
unfolding numbers_from
numbers_from-made zero bound g = tt
numbers_from-made (suc count) bound g =
    let n = number_from (word_after g) bound in
    let next = after_words n g in (
      number_from-made (word_after g) bound,
      AreMade-same (word_after next) (λ k. word_after g (n + k)) bound (numbers_from count bound next) (λ k. word_after-add n k g) (numbers_from-made count bound next),
    )

-- a number that was made is the first of those that are computed, and the others are computed from the generator that it leaves
pub numbers_from-next : (count bound n : ℕ) (g now : Lcg) → 1 ≤ count → IsMadeNumber (word_after g) bound n → now ≡ after_words n g
    → numbers_from count bound g ≡ n ∷ numbers_from (count - 1) bound now
unfolding numbers_from
numbers_from-next zero bound n g now some made moved = absurd (omega arith)
numbers_from-next (suc count) bound n g now some made moved =
    let is : number_from (word_after g) bound ≡ n = IsMadeNumber-once (word_after g) bound (number_from (word_after g) bound) n (number_from-made (word_after g) bound) made in
    let left : count ≡ suc count - 1 = omega arith in
    ap (λ m. m ∷ numbers_from count bound (after_words m g)) is
    ∙ ap (λ (h : Lcg). n ∷ numbers_from count bound h) (sym moved)
    ∙ ap (λ c. n ∷ numbers_from c bound now) left

pub numbers_from-are_numbers : (count bound : ℕ) (g : Lcg) → 1 ≤ count → count ≤ 65536 → AreNumbers (numbers_from count bound g)
numbers_from-are_numbers count bound g some few =
    let long = numbers_from-length count bound g in record {
      some = omega (arith, long);
      few = omega (arith, long);
      each = AreMade-countdowns (word_after g) bound (numbers_from count bound g) (numbers_from-made count bound g);
    }

pub numbers_from-bank : (g : Lcg) (rate count : ℕ) → IsMadeBank g rate count (bank_of (numbers_from count (bound_of rate) g))
numbers_from-bank g rate count = record {
  bank = refl;
  as_many = numbers_from-length count (bound_of rate) g;
  made = numbers_from-made count (bound_of rate) g;
}
