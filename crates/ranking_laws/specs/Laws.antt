-- Answers that are due: of each kind there is one, and no other.
use Rattle.std.specs.Prelude.{◌≡◌, ℕ, ◌<◌, Bool, List}
use Rattle.cbi_base.specs.declared.policy.Policy.{Policy}
use Rattle.flow.specs.declared.site.TableParts.{TableParts}
use Rattle.report_file.specs.declared.report.Report.{Report}
use Rattle.elimination_tallies.specs.declared.labelled.LabelledRun.{LabelledRun}
use Rattle.elimination_tallies.specs.Recount.{recount, runs_of}
use Rattle.elimination.specs.Elimination.{IsElimination}
use Rattle.ranking.specs.Ranked.{IsRankingOf}
use Rattle.affinity.specs.Cards.{IsCard}
use Rattle.affinity.specs.Near.{AreNear}
use Rattle.affinity.specs.Text.{AreCardsOf}
use Rattle.compound.specs.Found.{IsFound}

-- there is one of the kind, and no other
pub record ThereIsOne {A : Type 0} (IsOfKind : A → Type 0) : Type 0 where
  pub one : A
  pub is : IsOfKind one
  pub only : (other : A) → IsOfKind other → other ≡ one

abbrev pub RunsHaveOneElimination : Type 0
RunsHaveOneElimination = (branches : List Bool) (policy : Policy) (runs : List LabelledRun) → ThereIsOne (IsElimination branches policy runs)

abbrev pub RunsHaveOneRanking : Type 0
RunsHaveOneRanking = (table : TableParts) (policy : Policy) (runs : List LabelledRun) → ThereIsOne (IsRankingOf table policy runs)

abbrev pub PredicatesHaveOneNearList : Type 0
PredicatesHaveOneNearList = (branches : List Bool) (runs : List LabelledRun) (p : ℕ) → ThereIsOne (AreNear branches runs p)

-- a card names a failing run in which its predicate was true
abbrev pub PredicatesHaveOneCard : Type 0
PredicatesHaveOneCard = (branches : List Bool) (reports : List Report) (p : ℕ) → 0 < (recount branches (runs_of reports) p).a
    → ThereIsOne (IsCard branches reports p)

abbrev pub CollectionsHaveOneTextOfCards : Type 0
CollectionsHaveOneTextOfCards = (table : TableParts) (reports : List Report) → ThereIsOne (AreCardsOf table reports)

abbrev pub RunsHaveOneFound : Type 0
RunsHaveOneFound = (branches : List Bool) (runs : List LabelledRun) → ThereIsOne (IsFound branches runs)
