-- A search for bugs under way, and what one round changes.
use Rattle.std.specs.Prelude.{◌≡◌, ℕ, List, [], ◌∷◌, ◌++◌}
use Rattle.cbi_base.specs.declared.policy.Policy.TheVariants.{Failing}
use Rattle.collector.specs.Sites.{branches_of}
use Rattle.flow.specs.declared.site.TableParts.{TableParts}
use Rattle.report_file.specs.declared.report.Report.{Report}
use Rattle.elimination_tallies.specs.Recount.{failing_runs, runs_of}
use Rattle.elimination.specs.Elimination.{stepped_on}
use Rattle.affinity.specs.Cards.{IsLeastOf}
use Rattle.suspicious_lines.specs.Listing.{AreListed}
use Rattle.suspicious_lines.specs.Suspects.{successful_runs, suspects_of}
use Rattle.bug_rounds.specs.declared.bug.Bug.{Bug}
use Rattle.bug_rounds.specs.declared.search.Search.{Search}
use Rattle.bug_rounds.specs.declared.search.Found.{Found}
use Rattle.bug_rounds.specs.Live.{AreLive, failing_numbers, others_among, own_among}
use Rattle.bug_rounds.specs.Rounds.{AreRounds, left_behind}

-- its runs are of reports of the collection
pub record IsSearch (table : TableParts) (reports : List Report) (s : Search) : Type 0 where
  pub branches : s.eliminator.branches ≡ branches_of table.sites
  pub policy : s.eliminator.policy ≡ Failing
  pub successful : s.successful ≡ successful_runs s.eliminator.runs
  pub live : AreLive (branches_of table.sites) reports s.eliminator.runs s.live.items

-- no bug is found yet
pub record IsSearchStart (table : TableParts) (reports : List Report) (s : Search) : Type 0 where
  pub eliminator : s.eliminator ≡ record { branches = branches_of table.sites; policy = Failing; runs = runs_of reports }
  pub successful : s.successful ≡ successful_runs (runs_of reports)
  pub live : s.live.items ≡ failing_numbers reports
  pub bugs : s.bugs.items ≡ []

-- the bug of its next round
pub record IsNextBug (table : TableParts) (also : ℕ) (reports : List Report) (s : Search) (bug : Bug) : Type 0 where
  pub listed : AreListed (failing_runs s.eliminator.runs) (successful_runs s.eliminator.runs) 3 also (suspects_of table s.eliminator.runs)
      (bug.leader ∷ bug.others)
  pub failing : bug.failing ≡ failing_runs s.eliminator.runs
  pub first : IsLeastOf (own_among (branches_of table.sites) reports bug.leader.predicate s.live.items) bug.first

-- one more bug is found, and its leader's own runs are no longer live
pub record IsRoundDone (table : TableParts) (also : ℕ) (reports : List Report) (old new : Search) : Type 0 where
  pub bug : Bug
  pub found : IsNextBug table also reports old bug
  pub eliminator : new.eliminator ≡ stepped_on old.eliminator bug.leader.predicate
  pub successful : new.successful ≡ old.successful
  pub live : new.live.items ≡ others_among (branches_of table.sites) reports bug.leader.predicate old.live.items
  pub bugs : new.bugs.items ≡ old.bugs.items ++ bug ∷ []

-- at most so many bugs, and how many failing runs they leave
pub record AreFound (table : TableParts) (reports : List Report) (most also : ℕ) (found : Found) : Type 0 where
  pub rounds : AreRounds table also most reports found.bugs
  pub rest : found.rest ≡ failing_runs (runs_of (left_behind (branches_of table.sites) reports found.bugs))
