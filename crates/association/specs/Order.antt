-- The order of predicates: the greater strength first; then the one that was true in more failing runs; then the one whose site was observed in more runs; then
-- a branch before a return before a pair; then the smaller number.
use Rattle.std.specs.Prelude.{◌≡◌, ℕ, ◌+◌, ◌*◌, ◌<◌, ◌⊎◌}
use Rattle.fractions.specs.declared.fraction.Fraction.{Fraction}
use Rattle.fractions.specs.Tally.{IsTally}
use Rattle.association.specs.declared.contingency.Contingency.{Contingency}
use Rattle.association.specs.declared.suspect.Scheme.{Scheme}
use Rattle.association.specs.declared.suspect.Scheme.TheVariants.{Branches, Returns, Pairs}
use Rattle.association.specs.declared.suspect.Suspect.{Suspect}
use Rattle.association.specs.Strength.{IsContingency, strength_of}

-- the table of a predicate where so many runs fail and so many are successful
abbrev pub table_of : ℕ → ℕ → Suspect → Contingency
table_of failing successful s = record { a = s.tally.a; b = s.tally.b; failing = failing; successful = successful }

-- the numbers are over so many runs
pub record IsOfRuns (failing successful : ℕ) (s : Suspect) : Type 0 where
  pub table : IsContingency (table_of failing successful s)
  pub tally : IsTally s.tally

-- the first number is less, or they are equal and the rest decides
abbrev pub IsLessOr : ℕ → ℕ → Type 0 → Type 0
IsLessOr m n Rest = (m < n) ⊎ ((m ≡ n) × Rest)

abbrev pub rank_of : Scheme → ℕ
rank_of Branches = 0
rank_of Returns = 1
rank_of Pairs = 2

-- p goes before q where both are as strong
abbrev pub IsEarlier : Suspect → Suspect → Type 0
IsEarlier p q =
    IsLessOr q.tally.a p.tally.a
    (IsLessOr (q.tally.c + q.tally.d) (p.tally.c + p.tally.d) (IsLessOr (rank_of p.scheme) (rank_of q.scheme) (p.predicate < q.predicate)))

-- a fraction is less than another one, or they are equal and the rest decides
abbrev pub IsWeakerOr : Fraction → Fraction → Type 0 → Type 0
IsWeakerOr one other Rest = IsLessOr (one.top * other.bottom) (other.top * one.bottom) Rest

-- p is better than q
abbrev pub IsBetter : ℕ → ℕ → Suspect → Suspect → Type 0
IsBetter failing successful p q =
    IsWeakerOr (strength_of (table_of failing successful q)) (strength_of (table_of failing successful p)) (IsEarlier p q)
