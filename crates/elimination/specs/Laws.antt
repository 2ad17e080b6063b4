-- Laws of eliminations in the subject's words.
use Rattle.std.specs.Prelude.{◌≡◌, ◌≢◌, ℕ, ◌<◌, ◌≤◌, ◌==◌, ◌&&◌, Bool, List, [], ◌∷◌, All, IsPermutation}
use Rattle.cbi_base.specs.declared.policy.Policy.{Policy}
use Rattle.collector.specs.Sites.{branches_of, is_branch}
use Rattle.flow.specs.declared.site.Site.{Site}
use Rattle.flow.specs.Predicates.{IsPredicate, predicate_count}
use Rattle.report_file.specs.declared.report.Entry.{Entry}
use Rattle.report_file.specs.Report.{is_positive}
use Rattle.elimination_tallies.specs.declared.labelled.LabelledRun.{LabelledRun}
use Rattle.elimination_tallies.specs.declared.listed.Listed.{Listed}
use Rattle.elimination.specs.Elimination.{IsElimination, runs_after_leader, all_entries_taken, entries_in}
use Rattle.elimination_tallies.specs.Leading.{IsLeader}
use Rattle.elimination_tallies.specs.Predicates.{makes_true, is_observed_in_entry, predicates_in, is_true_in_entry}
use Rattle.elimination_tallies.specs.Recount.{failing_runs}

-- a table has as many predicates, and an entry speaks of a predicate exactly where it is of the predicate's site
pub record PredicateIs (sites : List Site) (predicate place : ℕ) (site : Site) (number : ℕ) : Type 0 where
  pub observed : (e : Entry) → is_observed_in_entry (branches_of sites) predicate e ≡ (e.site == place && is_positive e.counts)
  pub shown : (e : Entry) → is_true_in_entry (branches_of sites) predicate e ≡ (e.site == place && makes_true (is_branch site) number e.counts)

pub record PredicatesAreThoseOfTheTable : Type 0 where
  pub as_many : (sites : List Site) → predicates_in (branches_of sites) ≡ predicate_count sites
  pub each : (sites : List Site) (predicate place number : ℕ) (site : Site) → IsPredicate sites predicate place site number
      → PredicateIs sites predicate place site number

abbrev pub OneElimination : Type 0
OneElimination = (branches : List Bool) (policy : Policy) (runs : List LabelledRun) (one other : List Listed) → IsElimination branches policy runs one
    → IsElimination branches policy runs other → one ≡ other

abbrev pub OrderOfRunsIsFree : Type 0
OrderOfRunsIsFree = (branches : List Bool) (policy : Policy) (runs others : List LabelledRun) (rows : List Listed) → IsPermutation runs others
    → IsElimination branches policy runs rows → IsElimination branches policy others rows

-- no predicate stands twice
abbrev pub AreListedOnce : List Listed → Type 0
AreListedOnce [] = Unit {0}
AreListedOnce (row ∷ more) = All (λ (later : Listed). later.predicate ≢ row.predicate) more × AreListedOnce more

abbrev pub EachIsListedOnce : Type 0
EachIsListedOnce = (branches : List Bool) (policy : Policy) (runs : List LabelledRun) (rows : List Listed) → IsElimination branches policy runs rows
    → AreListedOnce rows

abbrev pub FailingRunsFall : Type 0
FailingRunsFall = (branches : List Bool) (policy : Policy) (runs : List LabelledRun) (row : Listed) → IsLeader branches runs row
    → failing_runs (runs_after_leader branches policy row.predicate runs) < failing_runs runs

abbrev pub EntriesAreTakenOnce : Type 0
EntriesAreTakenOnce = (branches : List Bool) (policy : Policy) (runs : List LabelledRun) (rows : List Listed)
    → all_entries_taken branches policy runs rows ≤ entries_in runs
