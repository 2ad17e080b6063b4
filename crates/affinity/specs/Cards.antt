-- A card of each listed predicate: in how many runs it was true, the first failing one of them, and the predicates near it.
use Rattle.std.specs.Prelude.{◌≡◌, ℕ, ◌≤◌, Bool, ◌&&◌, List, [], ◌∷◌, map, filter, All, Contains}
use Rattle.report_file.specs.declared.report.Report.{Report}
use Rattle.elimination_tallies.specs.declared.listed.Listed.{Listed}
use Rattle.elimination_tallies.specs.Recount.{is_failing, is_true, run_of_report, recount, runs_of}
use Rattle.affinity.specs.declared.dealing.Card.{Card}
use Rattle.affinity.specs.Near.{AreNear}

-- whether it is the report of a failing run in which the predicate was true
abbrev pub is_failing_true : List Bool → ℕ → Report → Bool
is_failing_true branches p r = is_failing r.label && is_true branches p (run_of_report r)

-- the numbers of the failing runs in which the predicate was true
abbrev pub failing_true : List Bool → List Report → ℕ → List ℕ
failing_true branches reports p = map (λ (r : Report). r.run) (filter (is_failing_true branches p) reports)

abbrev pub IsLeastOf : List ℕ → ℕ → Type 0
IsLeastOf numbers n = Contains numbers n × All (λ m. n ≤ m) numbers

pub record IsCard (branches : List Bool) (reports : List Report) (p : ℕ) (c : Card) : Type 0 where
  pub predicate : c.predicate ≡ p
  pub failing : c.failing ≡ (recount branches (runs_of reports) p).a
  pub successful : c.successful ≡ (recount branches (runs_of reports) p).b
  pub first : IsLeastOf (failing_true branches reports p) c.first
  pub near : AreNear branches (runs_of reports) p c.near

-- a card of each of these predicates, in their order
abbrev pub AreCards : List Bool → List Report → List Listed → List Card → Type 0
AreCards branches reports [] [] = Unit {0}
AreCards branches reports [] (c ∷ cards) = ⊥
AreCards branches reports (row ∷ rows) [] = ⊥
AreCards branches reports (row ∷ rows) (c ∷ cards) = IsCard branches reports row.predicate c × AreCards branches reports rows cards
