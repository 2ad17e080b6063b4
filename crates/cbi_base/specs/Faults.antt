-- Counts of faults. Each is a number of 64 bits, which stays at its last value once it is there.
use Rattle.std.specs.Prelude.{ℕ, ◌+◌, ◌-◌, ◌^◌, ◌≤◌, min}

-- the last value of a count
abbrev pub last_count : ℕ
last_count = 2 ^ 64 - 1

-- the count after one more
abbrev pub next_count : ℕ → ℕ
next_count count = min (count + 1) last_count

-- the count is greater now than before, or it stands at its last value
abbrev pub CountHasRisen : ℕ → ℕ → Type 0
CountHasRisen before now = next_count before ≤ now

-- the counts of a store that tells nothing else
pub record FaultCounts : Type 0 where
  pub read_faults : ℕ
  pub write_faults : ℕ
