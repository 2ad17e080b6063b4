-- A sink in memory, which fails at the calls that it is told to.
use Rattle.std.specs.Prelude.{ℕ, List}

-- a sink in memory
pub record SinkState : Type 0 where
  pub taken : List ℕ
  -- the calls so far
  pub calls : ℕ
  -- the numbers of the calls that are to fail
  pub failing : List ℕ
  pub faults : ℕ
