-- How the countdown of a sampled run stands to the visits of the full one.
use Rattle.std.specs.Prelude.{◌≡◌, ℕ, suc, ◌+◌, ◌<◌, ◌≤◌, List, length}
use Rattle.cbi_base.specs.declared.observation.Observation.{Observation}
use Rattle.flow.specs.Sampling.{total_of, samples}

-- so many numbers of the bank were drawn, and the countdown is the least sampled number above the number of visits so far, less that number;
-- what was observed are the samples of the visits
pub record Tally (bank : ℕ → ℕ) (visits observed : List Observation) (countdown drawn : ℕ) : Type 0 where
  pub due : total_of bank drawn ≡ length visits + countdown
  pub ahead : 0 < countdown
  pub last : (draws : ℕ) → suc draws ≡ drawn → total_of bank draws ≤ length visits
  pub same : observed ≡ samples bank visits
