-- The greatest sizes of a run.
use Rattle.std.specs.Prelude.{ℕ}

-- the most functions that are active at a time
abbrev pub active_limit : ℕ
active_limit = 512

-- the most bytes that a run writes
abbrev pub output_limit : ℕ
output_limit = 16777216
