-- What the command `bank` writes.
use Rattle.std.specs.Prelude.{◌≡◌, ℕ, List}
use Rattle.rand_pcg.specs.Lcg.{Lcg, started, increment_of}
use Rattle.rand_pcg.specs.Pcg.{multiplier_64}
use Rattle.countdown_bank.specs.Bank.{BankState}
use Rattle.countdown_bank.specs.BankFile.{bank_text}
use Rattle.countdown_bank.specs.MadeBank.{IsMadeBank}
use Rattle.cbi_options.specs.declared.words.BankWords.{BankWords}

-- the generator with this seed, on this stream
abbrev pub generator : (seed stream : ℕ) → Lcg
generator seed stream = started 64 multiplier_64 seed (increment_of 64 stream)

-- the text of the bank that this generator makes
pub record IsMadeText (b : BankWords) (text : List ℕ) : Type 0 where
  pub bank : BankState
  pub made : IsMadeBank (generator b.seed b.stream) b.rate b.count bank
  pub text_is : text ≡ bank_text bank
