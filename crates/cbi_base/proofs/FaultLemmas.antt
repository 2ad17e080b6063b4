use Rattle.std.proofs.Common.{◌≡◌, ℕ, ◌<◌, ◌≤◌, ◌⊎◌, ◌↔◌, List, arith}
use Rattle.cbi_base.specs.Faults.{next_count}
use Rattle.cbi_base.specs.Failing.{NoneIsToFail}

-- where no call to come is to fail, none is after one more call
pub NoneIsToFail_next : (failing : List ℕ) (calls : ℕ) → NoneIsToFail failing calls → NoneIsToFail failing (next_count calls)
NoneIsToFail_next failing calls all = record { none = λ number later fits. all.none number (omega arith) fits }
