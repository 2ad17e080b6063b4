-- How a bank is held: the numbers that were made so far, and those that will be, each when it is drawn first.
use Rattle.std.specs.Prelude.{◌≡◌, ℕ, ◌≤◌, List, ◌++◌, length}
use Rattle.countdown_bank.specs.Bank.{IsBank}

-- so many numbers in all, of which these were made and these are made later, at this position, with room for so many
pub record IsBankHeld (made later : List ℕ) (room count position : ℕ) : Type 0 where
  pub bank : IsBank (record { numbers = made ++ later; position = position })
  pub whole : length (made ++ later) ≡ count
  pub reached : position ≤ length made
  pub fits : count ≤ room
