use Rattle.std.proofs.Common.{ℕ, ◌≤◌, drop}
use Rattle.sites.specs.Standing.{EachToken, IsUpTo}
use Rattle.sites.proofs.noted.latest.Given as goal

-- where those that are left aren't behind a token that isn't before this one, none is
abbrev pub invariant-loop-spot : goal.invariant-loop-spot
invariant-loop-spot l = (n : ℕ) → l.last ≤ n → EachToken (IsUpTo n) (drop l.spot-index l.spots) → EachToken (IsUpTo n) l.spots
