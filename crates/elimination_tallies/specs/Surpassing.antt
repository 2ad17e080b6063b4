-- Numbers that can't give a predicate a greater importance than another one's, however many runs fail.
use Rattle.std.specs.Prelude.{◌*◌, ◌<◌, ◌≤◌, Option, None, Some}
use Rattle.fractions.specs.declared.tally.Tally.{Tally}
use Rattle.fractions.specs.Tally.{Passes, spread_of, surplus_of}
use Rattle.elimination_tallies.specs.declared.scan.Candidate.{Candidate}

-- the predicate was true in one failing run alone, which is worth nothing; or in no more failing runs than the other one, and its Increase is no greater
pub record IsNoGreater (t other : Tally) : Type 0 where
  pub fewer : 1 < t.a → t.a ≤ other.a
  pub increase : 1 < t.a → surplus_of t * spread_of other ≤ surplus_of other * spread_of t

-- a predicate with these numbers isn't the leader where this one is the best so far
abbrev pub CannotLead : Tally → Option Candidate → Type 0
CannotLead t None = Passes t → ⊥
CannotLead t (Some best) = Passes t → IsNoGreater t best.tally
