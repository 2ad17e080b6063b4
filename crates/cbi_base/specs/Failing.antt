-- Calls that are to fail, by their numbers. The first call is number 1. Once a call's number is the last value, the calls after it have that number too.
use Rattle.std.specs.Prelude.{ℕ, ◌≤◌, List, Contains}
use Rattle.cbi_base.specs.Faults.{next_count, last_count}

-- after so many calls, the next is one that is to fail
abbrev pub IsToFail : List ℕ → ℕ → Type 0
IsToFail failing calls = Contains failing (next_count calls)

-- after so many calls, no number to come is that of a call that is to fail
pub record NoneIsToFail (failing : List ℕ) (calls : ℕ) : Type 0 where
  pub none : (number : ℕ) → next_count calls ≤ number → number ≤ last_count → ¬ (Contains failing number)
