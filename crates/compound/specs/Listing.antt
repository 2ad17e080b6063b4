-- How candidates are listed: with their importance, the greatest first.
use Rattle.std.specs.Prelude.{◌≡◌, ◌⊎◌, ℕ, ◌-◌, ◌*◌, ◌<◌, ◌≤◌, Bool, true, false, nat_lt, List, length, map, take, insert, Option, None, Some, MatchOption}
use Rattle.std.specs.Prelude.{slice_index_or, All, AllPairs, Contains}
use Rattle.fractions.specs.declared.fraction.Fraction.{Fraction}
use Rattle.fractions.specs.declared.tally.Tally.{Tally}
use Rattle.fractions.specs.Fraction.{IsFraction}
use Rattle.fractions.specs.Tally.{Passes, importance_of}
use Rattle.compound.specs.declared.listing.Candidate.{Candidate}
use Rattle.compound.specs.Candidates.{ComesBefore, candidate_limit}

-- the first of two values is less
abbrev pub is_less : Fraction → Fraction → Bool
is_less left right = nat_lt (left.top * right.bottom) (right.top * left.bottom)

-- the importance of what passes
pub record IsRating (tally : Tally) (failing : ℕ) (f : Fraction) : Type 0 where
  pub passes : Passes tally
  pub is : f ≡ importance_of tally failing
  pub fraction : IsFraction f

-- no value exactly where it doesn't pass
abbrev pub IsRated : Tally → ℕ → Option Fraction → Type 0
IsRated tally failing rating = MatchOption rating (Passes tally → ⊥) (IsRating tally failing)

pub record IsRatedCandidate (numbers : ℕ → Tally) (failing : ℕ) (c : Candidate) : Type 0 where
  pub failing_is : c.failing ≡ (numbers c.predicate).a
  pub rated : IsRated (numbers c.predicate) failing c.rating

-- one that passes ranks above one that doesn't, and else the greater importance or the greater number does
abbrev pub rates_above : Option Fraction → Option Fraction → ℕ → ℕ → Bool
rates_above (Some f) (Some g) a b = is_less g f
rates_above (Some f) None a b = true
rates_above None (Some g) a b = false
rates_above None None a b = nat_lt b a

abbrev pub is_ranked_above : Candidate → Candidate → Bool
is_ranked_above x y = rates_above x.rating y.rating x.failing y.failing

-- where a new pair is inserted: behind the last pair that ranks at least as high
pub record IsPlaceOf (list : List Candidate) (next : Candidate) (place : ℕ) : Type 0 where
  pub within : place ≤ length list
  pub behind : (k : ℕ) (d : Candidate) → place ≤ k → k < length list → is_ranked_above next (slice_index_or list k d) ≡ true
  pub front : (d : Candidate) → 0 < place → is_ranked_above next (slice_index_or list (place - 1) d) ≡ false

-- a further one has its place, and the list is cut at its limit
pub record IsAdded (old : List Candidate) (next : Candidate) (new : List Candidate) : Type 0 where
  pub place : ℕ
  pub is_place : IsPlaceOf old next place
  pub new_is : new ≡ take candidate_limit (insert old place next)

abbrev pub IsBefore : (ℕ → Tally) → ℕ → Candidate → Candidate → Type 0
IsBefore numbers failing x y = ComesBefore numbers failing x.predicate y.predicate

-- one of the predicates before this number
pub record IsCandidateBelow (numbers : ℕ → Tally) (count failing : ℕ) (c : Candidate) : Type 0 where
  pub below : c.predicate < count
  pub some : 1 ≤ c.failing
  pub is : IsRatedCandidate numbers failing c

abbrev pub candidate_predicates : List Candidate → List ℕ
candidate_predicates list = map (λ (c : Candidate). c.predicate) list

-- a predicate is among the listed, or comes after a full list
abbrev pub IsListedOrPast : (ℕ → Tally) → ℕ → List Candidate → ℕ → Type 0
IsListedOrPast numbers failing list q =
    Contains (candidate_predicates list) q ⊎ ((length list ≡ candidate_limit) × All (λ (c : Candidate). ComesBefore numbers failing c.predicate q) list)

pub record AreListed (numbers : ℕ → Tally) (count failing : ℕ) (list : List Candidate) : Type 0 where
  pub each : All (IsCandidateBelow numbers count failing) list
  pub ordered : AllPairs (IsBefore numbers failing) list
  pub few : length list ≤ candidate_limit
  pub complete : (q : ℕ) → q < count → 1 ≤ (numbers q).a → IsListedOrPast numbers failing list q
