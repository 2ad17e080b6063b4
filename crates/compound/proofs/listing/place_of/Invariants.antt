use Rattle.std.proofs.Common.{◌≡◌, ℕ, ◌<◌, ◌≤◌, true, length, get_or}
use Rattle.compound.specs.declared.listing.Candidate.{Candidate}
use Rattle.compound.specs.Listing.{is_ranked_above}
use Rattle.compound.proofs.listing.place_of.Given as goal

abbrev pub invariant-loop-place : goal.invariant-loop-place
invariant-loop-place l = record {
  within : l.place ≤ length l.list;
  behind : (k : ℕ) (d : Candidate) → l.place ≤ k → k < length l.list → is_ranked_above l.next (get_or l.list k d) ≡ true;
}

abbrev pub decreases-loop-place : goal.decreases-loop-place
decreases-loop-place l = l.place
