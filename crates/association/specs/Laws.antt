-- Laws of the strength and of the order, in the words of statistics.
use Rattle.std.specs.Prelude.{◌≡◌, ◌≢◌, ℕ, ◌-◌, ◌<◌, ◌≤◌, ◌⊎◌}
use Rattle.association.specs.declared.contingency.Contingency.{Contingency}
use Rattle.association.specs.declared.suspect.Suspect.{Suspect}
use Rattle.association.specs.Order.{IsBetter}
use Rattle.association.specs.Strength.{IsContingency, held_in, runs_of, strength_of}

abbrev pub NoneIsAboveOne : Type 0
NoneIsAboveOne = (t : Contingency) → IsContingency t → (strength_of t).top ≤ (strength_of t).bottom

-- some runs fail and some don't, and the predicate is true in all failing runs and in no other
pub record IsPerfect (t : Contingency) : Type 0 where
  pub some_fail : 0 < t.failing
  pub some_succeed : 0 < t.successful
  pub all_failing : t.a ≡ t.failing
  pub no_other : t.b ≡ 0

abbrev pub PerfectPredictorsAreOne : Type 0
PerfectPredictorsAreOne = (t : Contingency) → IsPerfect t → (strength_of t).top ≡ (strength_of t).bottom

abbrev pub OnlyPerfectPredictorsAreOne : Type 0
OnlyPerfectPredictorsAreOne = (t : Contingency) → IsContingency t → (strength_of t).top ≡ (strength_of t).bottom → IsPerfect t

-- how strongly failing goes with the predicate: their roles are changed
abbrev pub roles_changed : Contingency → Contingency
roles_changed t = record { a = t.a; b = t.failing - t.a; failing = held_in t; successful = runs_of t - held_in t }

abbrev pub RolesAreSymmetric : Type 0
RolesAreSymmetric = (t : Contingency) → IsContingency t → strength_of (roles_changed t) ≡ strength_of t

-- how strongly the opposite of the predicate goes with success
abbrev pub sides_changed : Contingency → Contingency
sides_changed t = record { a = t.successful - t.b; b = t.failing - t.a; failing = t.successful; successful = t.failing }

abbrev pub SidesAreSymmetric : Type 0
SidesAreSymmetric = (t : Contingency) → IsContingency t → strength_of (sides_changed t) ≡ strength_of t

pub record IsStrictTotalOrder : Type 0 where
  pub irreflexive : (failing successful : ℕ) (p : Suspect) → IsBetter failing successful p p → ⊥
  pub transitive : (failing successful : ℕ) (p q r : Suspect) → IsBetter failing successful p q → IsBetter failing successful q r
      → IsBetter failing successful p r
  pub total : (failing successful : ℕ) (p q : Suspect) → p.predicate ≢ q.predicate → IsBetter failing successful p q ⊎ IsBetter failing successful q p
