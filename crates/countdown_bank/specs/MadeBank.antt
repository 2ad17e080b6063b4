-- Numbers made from the words of a generator: how far it is to the next word below a bound.
use Rattle.std.specs.Prelude.{◌≡◌, ℕ, zero, suc, ◌+◌, ◌-◌, ◌/◌, ◌^◌, ◌<◌, ◌≤◌, nat_lt, if◌then◌else◌, ◌⊎◌, List, [], ◌∷◌, length}
use Rattle.rand_pcg.specs.Lcg.{Lcg, advance}
use Rattle.rand_pcg.specs.Pcg.{multiplier_64, pcg32}
use Rattle.countdown_bank.specs.Bank.{BankState, bank_of}

-- the generator after so many words
abbrev pub after_words : ℕ → Lcg → Lcg
after_words count g = advance 64 multiplier_64 count g

-- the word that the generator gives after so many words
abbrev pub word_after : Lcg → ℕ → ℕ
word_after g count = (pcg32 (after_words count g)).0

-- a word is below the bound once in so many
abbrev pub bound_of : ℕ → ℕ
bound_of rate = 2 ^ 32 / rate

-- the most words that one number uses
abbrev pub most_words : ℕ
most_words = 1048576

-- a number made from these words, which uses so many of them: the place, from 1, of the first word below the bound, or the most
-- words where none of so many is below
pub record IsMadeNumber (words : ℕ → ℕ) (bound number : ℕ) : Type 0 where
  pub some : 1 ≤ number
  pub few : number ≤ most_words
  pub none_before : (k : ℕ) → k + 1 < number → bound ≤ words k
  pub stops : (words (number - 1) < bound) ⊎ (number ≡ most_words)

-- the numbers are made one after another, each from the words that those before it leave
abbrev pub AreMade : (ℕ → ℕ) → ℕ → List ℕ → Type 0
AreMade words bound [] = Unit {0}
AreMade words bound (number ∷ more) = IsMadeNumber words bound number × AreMade (λ k. words (number + k)) bound more

-- the bank that a generator makes at a rate, with so many numbers
pub record IsMadeBank (g : Lcg) (rate count : ℕ) (b : BankState) : Type 0 where
  pub bank : b ≡ bank_of b.numbers
  pub as_many : length b.numbers ≡ count
  pub made : AreMade (word_after g) (bound_of rate) b.numbers

-- the generator moved by some number of words
pub record HasMoved (before now : Lcg) : Type 0 where
  pub words : ℕ
  pub is : now ≡ after_words words before

-- how many of these words come before the first one below the bound, of so many
unfoldable pub words_before : ℕ → (ℕ → ℕ) → ℕ → ℕ
words_before zero words bound = 0
words_before (suc many) words bound = if nat_lt (words 0) bound then 0 else words_before many (λ k. words (k + 1)) bound + 1

-- the number that is made from these words
abbrev pub number_from : (ℕ → ℕ) → ℕ → ℕ
number_from words bound = words_before (most_words - 1) words bound + 1

-- so many numbers, made one after another: those of the made bank, computed
unfoldable pub numbers_from : ℕ → ℕ → Lcg → List ℕ
numbers_from zero bound g = []
numbers_from (suc count) bound g =
    let number = number_from (word_after g) bound in number ∷ numbers_from count bound (after_words number g)
