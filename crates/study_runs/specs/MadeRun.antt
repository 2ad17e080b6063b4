-- Made runs: the bank and the input that the words of a generator give.
use Rattle.std.specs.Prelude.{◌≡◌, ℕ, zero, suc, ◌+◌, ◌%◌, ◌≤◌, List, [], ◌∷◌, ◌++◌, sum}
use Rattle.rand_pcg.specs.Lcg.{Lcg, started, increment_of}
use Rattle.rand_pcg.specs.Pcg.{multiplier_64}
use Rattle.countdown_bank.specs.Bank.{BankState}
use Rattle.countdown_bank.specs.MadeBank.{IsMadeBank, word_after}

-- the generator of the run with this number: the seed's, on the stream with that number
abbrev pub generator_of : (seed number : ℕ) → Lcg
generator_of seed number = started 64 multiplier_64 seed (increment_of 64 number)

-- how many numbers its bank has
abbrev pub made_numbers : ℕ
made_numbers = 256

-- a printable byte of ASCII
abbrev pub IsPrintable : ℕ → Type 0
IsPrintable b = (32 ≤ b) × (b ≤ 126)

abbrev pub byte_from : ℕ → ℕ
byte_from word = 32 + word % 95

-- so many of them, each from the next word
abbrev pub bytes_from : (ℕ → ℕ) → ℕ → List ℕ
bytes_from words zero = []
bytes_from words (suc n) = bytes_from words n ++ byte_from (words n) ∷ []

-- a line: the first word gives its length, below 64, and those after it its bytes
abbrev pub line_from : (ℕ → ℕ) → List ℕ
line_from words = bytes_from (λ k. words (k + 1)) (words 0 % 64) ++ 10 ∷ []

-- this is the bank of the run with this number, and its input, which is made from the words that the bank leaves
pub record IsMadeRun (seed rate number : ℕ) (bank : BankState) (input : List ℕ) : Type 0 where
  pub bank_is : IsMadeBank (generator_of seed number) rate made_numbers bank
  pub input_is : input ≡ line_from (λ k. word_after (generator_of seed number) (sum bank.numbers + k))
