-- Which visits of sites a bank of countdowns samples (PLDI 2003 section 2). The bank is given as what it draws: `bank draws` is the number
-- that comes after so many draws. Visits are numbered from 1 over the whole run.
use Rattle.std.specs.Prelude.{◌≡◌, ℕ, zero, suc, ◌+◌, ◌≤◌, ◌==◌, ◌||◌, Bool, false, if◌then◌else◌, List, [], ◌∷◌}
use Rattle.cbi_base.specs.declared.observation.Observation.{Observation}

-- the sum of the first numbers of the bank, so many of them
abbrev pub total_of : (ℕ → ℕ) → ℕ → ℕ
total_of bank zero = 0
total_of bank (suc draws) = total_of bank draws + bank draws

-- a sampled number is the sum of the first numbers of the bank, at least one of them
pub record IsSampled (bank : ℕ → ℕ) (number : ℕ) : Type 0 where
  pub draws : ℕ
  pub some : 1 ≤ draws
  pub is : total_of bank draws ≡ number

-- each number of the bank is at least 1
abbrev pub IsPositive : (ℕ → ℕ) → Type 0
IsPositive bank = (draws : ℕ) → 1 ≤ bank draws

-- whether the number is the sum of the first numbers, at least one and at most so many
abbrev pub is_total : (ℕ → ℕ) → ℕ → ℕ → Bool
is_total bank zero number = false
is_total bank (suc draws) number = total_of bank (suc draws) == number || is_total bank draws number

-- whether a number is sampled: where each number of the bank is at least 1, more of them than the number itself can't add up to it
abbrev pub is_sampled : (ℕ → ℕ) → ℕ → Bool
is_sampled bank number = is_total bank number number

-- those of the visits that are sampled, where so many visits came before them
abbrev pub samples_after : (ℕ → ℕ) → ℕ → List Observation → List Observation
samples_after bank before [] = []
samples_after bank before (visit ∷ visits) =
    if is_sampled bank (suc before) then visit ∷ samples_after bank (suc before) visits else samples_after bank (suc before) visits

-- the sampled visits of a run
abbrev pub samples : (ℕ → ℕ) → List Observation → List Observation
samples bank visits = samples_after bank 0 visits
