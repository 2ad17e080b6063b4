-- Each word is below 2^32, so at rate 1 each number is 1.
use Rattle.std.proofs.Common.{◌≡◌, ℕ, ◌+◌, ◌%◌, ◌^◌, ◌<◌, inl, inr, List, [], ◌∷◌, length, replicate, bit_or, refl, ap, subst, ◌∙◌, arith}
use Rattle.std.specs.Int.{w32, rotate_right}
use Rattle.std.proofs.lemmas.Nat.{or_mod}
use Rattle.std.proofs.lemmas.Bool.{cases_lt}
use Rattle.std.proofs.Math.Nat.{mod-lt, mod-eq_of_lt, div-le_self}
use Rattle.rand_pcg.specs.Lcg.{Lcg}
use Rattle.countdown_bank.specs.Bank.{BankState}
use Rattle.countdown_bank.specs.MadeBank.{IsMadeNumber, AreMade, IsMadeBank, word_after, bound_of}

or-fits : (k a b : ℕ) → 0 < 2 ^ k → a < 2 ^ k → b < 2 ^ k → bit_or a b < 2 ^ k
or-fits k a b some x y =
    let same : bit_or a b % 2 ^ k ≡ bit_or a b = or_mod a b k ∙ ap (λ n. bit_or n (b % 2 ^ k)) (mod-eq_of_lt x) ∙ ap (bit_or a) (mod-eq_of_lt y) in
    subst (λ n. n < 2 ^ k) same (mod-lt (bit_or a b) some)

rotated-fits : (n by : ℕ) → n < 2 ^ 32 → rotate_right w32 n by < 2 ^ 32
rotated-fits n by fits = or-fits 32 _ _ (omega arith) (omega (arith, div-le_self n (2 ^ (by % 32)))) (mod-lt _ (omega arith))

-- a word has 32 bits
pub word-fits : (g : Lcg) (k : ℕ) → word_after g k < 2 ^ 32
word-fits g k = rotated-fits _ _ (mod-lt _ (omega arith))

-- a number made where the first word is below the bound
number-one : (words : ℕ → ℕ) (bound n : ℕ) → words 0 < bound → IsMadeNumber words bound n → n ≡ 1
number-one words bound n below m =
    elim (cases_lt 1 n) [ inl more ↦ absurd (omega (arith, m.none_before 0 more)) | inr few ↦ omega (arith, m.some) ]

numbers-ones : (words : ℕ → ℕ) (bound : ℕ) (ns : List ℕ) → ((k : ℕ) → words k < bound) → AreMade words bound ns → ns ≡ replicate (length ns) 1
numbers-ones words bound [] below made = refl
numbers-ones words bound (n ∷ ns) below made =
    let first = number-one words bound n (below 0) made.0 in
    let rest = numbers-ones (λ k. words (n + k)) bound ns (λ k. below (n + k)) made.1 in
    cc (first, rest)

pub ones-made : (g : Lcg) (count : ℕ) (b : BankState) → IsMadeBank g 1 count b → b.numbers ≡ replicate count 1
ones-made g count b m = numbers-ones (word_after g) (bound_of 1) b.numbers (word-fits g) m.made ∙ ap (λ n. replicate n 1) m.as_many
