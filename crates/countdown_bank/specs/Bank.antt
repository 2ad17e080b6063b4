-- A bank of countdowns: a list of numbers that is drawn from its position on, round and round.
use Rattle.std.specs.Prelude.{ℕ, ◌+◌, ◌%◌, ◌<◌, ◌≤◌, List, length, slice_index, All}

-- the numbers, and the place of the one that is drawn next
pub record BankState : Type 0 where
  pub numbers : List ℕ
  pub position : ℕ

abbrev pub most_numbers : ℕ
most_numbers = 65536

abbrev pub greatest_number : ℕ
greatest_number = 2147483647

-- a number that a bank can have
abbrev pub IsCountdown : ℕ → Type 0
IsCountdown n = (1 ≤ n) × (n ≤ greatest_number)

-- numbers that make a bank
pub record AreNumbers (numbers : List ℕ) : Type 0 where
  pub some : 0 < length numbers
  pub few : length numbers ≤ most_numbers
  pub each : All IsCountdown numbers

pub record IsBank (b : BankState) : Type 0 where
  pub numbers : AreNumbers b.numbers
  pub position : b.position < length b.numbers

-- a bank that is drawn from its first number on
abbrev pub bank_of : List ℕ → BankState
bank_of numbers = record { numbers = numbers; position = 0 }

-- the bank after so many draws, round and round
abbrev pub bank_after_draws : ℕ → BankState → BankState
bank_after_draws draws b = record b { position = (b.position + draws) % length b.numbers }

-- the number that the draw after so many draws gives
abbrev pub number_after : BankState → ℕ → ℕ
number_after b draws = slice_index b.numbers ((b.position + draws) % length b.numbers)
