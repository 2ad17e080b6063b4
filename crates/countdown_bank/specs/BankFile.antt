-- The text of a bank, and where a text goes wrong.
use Rattle.std.specs.Prelude.{◌≡◌, ℕ, ◌<◌, List, [], ◌∷◌, ◌++◌, length, map, decimal, Result, Ok, Err}
use Rattle.cbi_base.specs.Words.{text_of, IsBadLine}
use Rattle.countdown_bank.specs.declared.file.BankError.{BankError}
use Rattle.countdown_bank.specs.declared.file.BankError.TheVariants.{BadBank, Memory}
use Rattle.countdown_bank.specs.Bank.{BankState, IsCountdown, most_numbers}

-- the text of these numbers, a line each
abbrev pub numbers_text : List ℕ → List ℕ
numbers_text numbers = text_of (map decimal numbers)

-- the text of a bank is that of its numbers, whatever its position
abbrev pub bank_text : BankState → List ℕ
bank_text b = numbers_text b.numbers

-- the line of one more number may come while there is room
pub record NumberFollows (before line after : List ℕ) : Type 0 where
  pub number : ℕ
  pub is_countdown : IsCountdown number
  pub room : length before < most_numbers
  pub line_is : line ≡ decimal number
  pub after_is : after ≡ before ++ number ∷ []

-- a bank may end where it has a number
abbrev pub MayEnd : List ℕ → Type 0
MayEnd numbers = 0 < length numbers

-- the line at which the text of a bank goes wrong: it is no number's decimal, or the bank is full, or the text ends without a number
abbrev pub IsBadBankLine : List ℕ → ℕ → Type 0
IsBadBankLine text line = IsBadLine NumberFollows MayEnd [] text line

-- the answer is this bank, unless memory ran out
abbrev pub BankReadAs : Result BankState BankError → BankState → Type 0
BankReadAs (Ok b) want = b ≡ want
BankReadAs (Err (BadBank line)) want = ⊥
BankReadAs (Err Memory) want = Unit {0}

-- the text is refused at this line, unless memory ran out
abbrev pub BankRefusedAt : Result BankState BankError → ℕ → Type 0
BankRefusedAt (Ok b) line = ⊥
BankRefusedAt (Err (BadBank bad)) line = bad ≡ line
BankRefusedAt (Err Memory) line = Unit {0}
